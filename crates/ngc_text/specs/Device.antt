-- The fields of a device that contracts see.
use Rattle.std.specs.Prelude.{ℕ}
use Rattle.ngc_text.specs.declared.device.Device.{Device}

-- the reader or writer of std
abbrev pub inner_of : {T : Type 0} → Device T → T
inner_of d = d.inner

-- how many times it returned a fault
abbrev pub failures_of : {T : Type 0} → Device T → ℕ
failures_of d = d.failures
