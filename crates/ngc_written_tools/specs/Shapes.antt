-- The measures of a tool. The tool sticks out of the holder, which reaches from there to the spindle
-- nose. Lengths are in nanometres. Our own.
use Rattle.std.specs.Prelude.{ℕ, ◌+◌, ◌-◌, ◌==◌, nat_lt, nat_le, Option, Some, None, Result, Ok}
use Rattle.std.specs.Prelude.{if◌then◌else◌}
use Rattle.ngc_file_figures.specs.declared.cutter.Cutter.{Cutter}
use Rattle.ngc_file_figures.specs.declared.cutter.Cutter.TheVariants.{Vee, Drill}
use Rattle.ngc_machine_figures.specs.declared.key.Key.TheVariants.{Tool}
use Rattle.ngc_machine_figures.specs.declared.refusal.FileRefusal.{FileRefusal}
use Rattle.ngc_machine_figures.specs.declared.refusal.Wrong.TheVariants as wrongs
use Rattle.ngc_machine_figures.specs.declared.tool_key.ToolKey.{ToolKey}
use Rattle.ngc_machine_figures.specs.declared.tool_key.ToolKey.TheVariants as keys
use Rattle.ngc_machine_figures.specs.declared.tool_key.ToolWrong.{ToolWrong}
use Rattle.ngc_machine_figures.specs.declared.tool_key.ToolWrong.TheVariants as tools
use Rattle.ngc_machine_figures.specs.Reading.{◌>>=◌, refused}
use Rattle.ngc_written_tools.specs.declared.sheet.Blade.{Blade}
use Rattle.ngc_written_tools.specs.declared.sheet.HolderSheet.{HolderSheet}
use Rattle.ngc_written_tools.specs.declared.sheet.MeasuredTool.{MeasuredTool}
use Rattle.ngc_written_tools.specs.declared.sheet.PartSheet.{PartSheet}
use Rattle.ngc_written_tools.specs.declared.sheet.Reach.{Reach}
use Rattle.ngc_written_tools.specs.declared.sheet.Size.{Size}
use Rattle.ngc_written_tools.specs.declared.sheet.ToolSheet.{ToolSheet}

abbrev pub refuse : {T : Type 0} → ToolKey → ToolWrong → Result T FileRefusal
refuse key wrong = refused (Tool key) (wrongs.Tool wrong)

-- ---- length and stickout

abbrev pub part_length : Option PartSheet → ℕ
part_length None = 0
part_length (Some p) = p.length.nanometres

abbrev pub holder_length : HolderSheet → ℕ
holder_length h = part_length h.first + part_length h.second + part_length h.third

abbrev pub reach : ℕ → ℕ → Reach
reach length stickout =
    record { length = record { nanometres = length }; stickout = record { nanometres = stickout } }

abbrev pub unequal : ℕ → ToolWrong
unequal holder = if holder == 0 then tools.UnequalLength else tools.UnequalHolder

-- stickout and holder add up to the length
abbrev pub reach_of_both : ℕ → Size → Size → ℕ → Result Reach FileRefusal
reach_of_both n length stickout holder =
    if stickout.nanometres + holder == length.nanometres
    then Ok (reach length.nanometres stickout.nanometres)
    else refuse (keys.Stickout n) (unequal holder)

abbrev pub reach_of_length : ℕ → Size → ℕ → Result Reach FileRefusal
reach_of_length n length holder =
    if nat_lt holder length.nanometres
    then Ok (reach length.nanometres (length.nanometres - holder))
    else refuse (keys.Length n) tools.ShortTool

abbrev pub reach_of_stickout : ℕ → Size → ℕ → Result Reach FileRefusal
reach_of_stickout n stickout holder =
    if nat_le (stickout.nanometres + holder) 1000000000
    then Ok (reach (stickout.nanometres + holder) stickout.nanometres)
    else refuse (keys.Stickout n) tools.LongTool

abbrev pub reach_of : ℕ → Option Size → Option Size → ℕ → Result Reach FileRefusal
reach_of n (Some length) (Some stickout) holder = reach_of_both n length stickout holder
reach_of n (Some length) None holder = reach_of_length n length holder
reach_of n None (Some stickout) holder = reach_of_stickout n stickout holder
reach_of n None None holder = refuse (keys.Tool n) tools.NoLength

-- ---- cutter and shank, which stick out of the holder

abbrev pub or_else : Option Size → Size → Size
or_else None otherwise = otherwise
or_else (Some size) otherwise = size

abbrev pub part : Size → ℕ → PartSheet
part diameter length = record { diameter = diameter; length = record { nanometres = length } }

-- the cutter is all that sticks out
abbrev pub whole_blade : Size → Size → Blade
whole_blade diameter stickout = record { cutter = part diameter stickout.nanometres; shank = None }

-- the shank is what sticks out above the flute; it has the cutter's diameter unless it has its own
abbrev pub blade_with : ℕ → ToolSheet → Size → Size → Result Blade FileRefusal
blade_with n sheet flute stickout =
    if nat_lt stickout.nanometres flute.nanometres then refuse (keys.Flute n) tools.LongFlute
    else (if stickout.nanometres == flute.nanometres then Ok (whole_blade sheet.diameter stickout)
    else Ok (record {
      cutter = part sheet.diameter flute.nanometres;
      shank = Some (part (or_else sheet.shank sheet.diameter) (stickout.nanometres - flute.nanometres));
    }))

abbrev pub blade_by : ℕ → ToolSheet → Size → Option Size → Option Size → Result Blade FileRefusal
blade_by n sheet stickout (Some flute) shank = blade_with n sheet flute stickout
blade_by n sheet stickout None None = Ok (whole_blade sheet.diameter stickout)
blade_by n sheet stickout None (Some shank) = refuse (keys.Shank n) tools.LoneShank

abbrev pub blade_of : ℕ → ToolSheet → Size → Result Blade FileRefusal
blade_of n sheet stickout = blade_by n sheet stickout sheet.flute sheet.shank

-- ---- the point of a cutter

-- the point is a part of the cutter
abbrev pub checked_length : ℕ → Size → Blade → Result (Unit {0}) FileRefusal
checked_length n point blade =
    if nat_lt blade.cutter.length.nanometres point.nanometres then refuse (keys.Point n) tools.LongPoint else Ok tt

-- only a vee and a drill have one
abbrev pub checked_point : ℕ → Option Cutter → Option Size → Blade → Result (Unit {0}) FileRefusal
checked_point n cutter None blade = Ok tt
checked_point n (Some Vee) (Some point) blade = checked_length n point blade
checked_point n (Some Drill) (Some point) blade = checked_length n point blade
checked_point n _ (Some point) blade = refuse (keys.Point n) tools.LonePoint

-- ---- all

-- a tool has at most four parts: not a shank and three parts of the holder
abbrev pub few_parts : ℕ → Option PartSheet → Option PartSheet → Result (Unit {0}) FileRefusal
few_parts n (Some shank) (Some third) = refuse (keys.Holder n) tools.ManyParts
few_parts n _ _ = Ok tt

abbrev pub checked_parts : ℕ → Blade → HolderSheet → Result (Unit {0}) FileRefusal
checked_parts n blade holder = few_parts n blade.shank holder.third

unfoldable pub measured : ℕ → ToolSheet → HolderSheet → Result MeasuredTool FileRefusal
measured n sheet holder = do
  reach ← reach_of n sheet.length sheet.stickout (holder_length holder)
  blade ← blade_of n sheet reach.stickout
  pointed ← checked_point n sheet.limits.cutter sheet.point blade
  few ← checked_parts n blade holder
  Ok (record { place = n; sheet = sheet; reach = reach; blade = blade; holder = holder })
