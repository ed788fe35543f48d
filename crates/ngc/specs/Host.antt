-- The number of times that a source returned a fault.
use Rattle.std.specs.Prelude.{ℕ}
use Rattle.ngc_text.specs.Device.{failures_of as device_failures}
use Rattle.ngc.specs.declared.host.HostSource.{HostSource}
use Rattle.ngc.specs.declared.host.HostSource.TheVariants.{Input, Named}

abbrev pub failures_of : HostSource → ℕ
failures_of (Input device) = device_failures device
failures_of (Named device) = device_failures device
