-- What the dialects' lines differ in. LinuxCNC's are from its documentation ("G-code overview",
-- "O codes"), Grbl's, Mach3's and Fanuc's from theirs.
use Rattle.std.specs.Prelude.{true, false}
use Rattle.ngc_dialect_names.specs.declared.dialect.Dialect.{Dialect}
use Rattle.ngc_dialect_names.specs.declared.dialect.Dialect.TheVariants as dialects
use Rattle.ngc_dialect_reader.specs.declared.switches.Switches.{Switches}

abbrev pub switches_of : Dialect → Switches
switches_of dialects.LinuxCnc =
    record {
      expressions = true;
      names = true;
      labels = true;
      flow = true;
      macros = false;
      polar = true;
      levels = false;
      closed_comments = true;
      commands = false;
    }
switches_of dialects.Grbl =
    record {
      expressions = false;
      names = false;
      labels = false;
      flow = false;
      macros = false;
      polar = false;
      levels = false;
      closed_comments = false;
      commands = true;
    }
switches_of dialects.Mach3 =
    record {
      expressions = true;
      names = false;
      labels = true;
      flow = false;
      macros = false;
      polar = false;
      levels = true;
      closed_comments = false;
      commands = false;
    }
switches_of dialects.Fanuc =
    record {
      expressions = true;
      names = false;
      labels = true;
      flow = false;
      macros = true;
      polar = false;
      levels = true;
      closed_comments = false;
      commands = false;
    }
