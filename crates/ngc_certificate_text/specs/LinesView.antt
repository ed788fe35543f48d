-- The rest of a certificate's text, as a function of the bytes that follow. Our own.
use Rattle.std.specs.Prelude.{ℕ, ◌-◌, ◌*◌, ◌≤◌, List, ◌++◌, length, IsTrue}
use Rattle.ngc_certificate_text.specs.declared.certificate_lines.CertificateLines.{CertificateLines}
use Rattle.ngc_certificate_text.specs.declared.expected.Expected.{Expected}
use Rattle.ngc_certificate_text.specs.Ahead.{Left, left_from, IsSound, lines_ahead}
use Rattle.ngc_certificate_text.specs.Parted.{is_feedless}

-- the rest if these bytes follow, split into lines in this way
abbrev pub left_by : (List ℕ → List (List ℕ)) → CertificateLines → List ℕ → Left
left_by lines r bytes = left_from r.next.expected r.next.number (lines (r.cut.items ++ bytes))

-- the next line
abbrev pub expected_in : CertificateLines → Expected
expected_in r = r.next.expected

-- no fault was returned yet
pub record IsReading (r : CertificateLines) : Type 0 where
  pub sound : IsSound r.next.expected r.next.number
  pub feedless : IsTrue (is_feedless r.cut.items)
  pub short : length r.cut.items ≤ 256

-- the greatest number of further bytes
abbrev pub room_of : CertificateLines → ℕ
room_of r = 257 * lines_ahead r.next.expected - length r.cut.items
