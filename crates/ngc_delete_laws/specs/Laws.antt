-- Block delete in programs of other controls: it leaves out the lines that begin with `/`. A program of
-- which no line begins so is executed without it, by definition. These laws say that this changes
-- nothing. Our own.
use Rattle.std.specs.Prelude.{◌≡◌, ℕ, List, Bool, true, false}
use Rattle.ngc_canonical.specs.State.{Setup}
use Rattle.ngc_dialect_names.specs.declared.dialect.Dialect.{Dialect}
use Rattle.ngc_dialect_execution.specs.declared.run.Wanted.{Wanted}
use Rattle.ngc_dialect_execution.specs.Program.{traced_by, traced_in}
use Rattle.ngc_dialect_execution.specs.Text.{has_deleted}

-- a text of which no line begins with `/` does the same whether such lines are left out or not
abbrev pub AlikeWithoutSlash : Type 0
AlikeWithoutSlash =
    (w : Wanted) (d : Dialect) (setup : Setup) (text : List ℕ) → has_deleted text ≡ false →
    traced_by w d setup true text ≡ traced_by w d setup false text

-- So at each setting of block delete a program does what its text does if lines that begin with `/`
-- are left out exactly at that setting.
abbrev pub FollowsSetting : Type 0
FollowsSetting =
    (w : Wanted) (d : Dialect) (setup : Setup) (block_delete : Bool) (text : List ℕ) →
    traced_in w d setup block_delete text ≡ traced_by w d setup block_delete text
