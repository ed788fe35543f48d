-- The contents of a certificate in memory. Our own.
use Rattle.ngc_certificate_text.specs.declared.certificate.Certificate.{Certificate}
use Rattle.ngc_certificate_text.specs.Certificate.{CertificateData}
use Rattle.ngc_certificate_text.specs.Joined.{Form}
use Rattle.ngc_certificate_text.specs.Order.{form_in}
use Rattle.std.specs.Option.{option_map}

abbrev pub certificate_data : {A : Type 0} → Certificate A → CertificateData
certificate_data c = record { off = c.off; on = c.on }

-- in the form in which it is written
abbrev pub form_of : {A : Type 0} → Certificate A → Form
form_of c = form_in (option_map (λ kinds. kinds.items) c.order) c.off c.on
