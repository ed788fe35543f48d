-- What is said of the remaining commands, after what is said of one.
use Rattle.std.proofs.Common.{◌≡◌, ℕ, ◌+◌, ◌-◌, ◌≤◌, refl, sym, ◌∙◌, ap, arith, List, [], ◌∷◌, ◌++◌, length, flat_map, Option, Some, None}
use Rattle.ngc_commands.specs.declared.command.Command.{Command}
use Rattle.ngc_commands.specs.declared.reached.Reached.{Reached}
use Rattle.ngc_commands.specs.Reached.{after}
use Rattle.ngc_cells.specs.declared.stretch.Spot.{Spot}
use Rattle.ngc_stock.specs.declared.change.Change.{Change}
use Rattle.ngc_stock.specs.declared.stock.Stock.{Stock}
use Rattle.ngc_stock.specs.Changes.{change_at, with_change, changes}
use Rattle.ngc_report.specs.declared.form.Form.{Form}
use Rattle.ngc_material_report.specs.Sentences.{change_text, change_line}

first_text : (form : Form) (origin : Spot) (o : Option Change) (later : List Change) →
    flat_map (change_text form origin) (with_change o later) ≡ change_line form origin o ++ flat_map (change_text form origin) later
first_text form origin None later = refl
first_text form origin (Some x) later = refl

pub next_text : (form : Form) (origin : Spot) (s : Stock) (r next : Reached) (all left later : List Command) (c : Command) (o : Option Change) →
    left ≡ c ∷ later → length left ≤ length all → next ≡ after r c.action → o ≡ change_at s r (length all - length left) c →
    flat_map (change_text form origin) (changes s r (length all - length left) left)
    ≡ change_line form origin o ++ flat_map (change_text form origin) (changes s next (length all - length later) later)
next_text form origin s r next all left later c o e few n is =
    let size : length left ≡ length later + 1 = ap (λ (l : List Command). length l) e ∙ omega arith in
    let at : length all - length later ≡ (length all - length left) + 1 = omega (arith, size, few) in
    ap (λ (l : List Command). flat_map (change_text form origin) (changes s r (length all - length left) l)) e
    ∙ first_text form origin (change_at s r (length all - length left) c) (changes s (after r c.action) ((length all - length left) + 1) later)
    ∙ ap (λ (x : Option Change). change_line form origin x ++ flat_map (change_text form origin) (changes s (after r c.action) ((length all - length left) + 1) later)) (sym is)
    ∙ ap (λ (x : Reached). change_line form origin o ++ flat_map (change_text form origin) (changes s x ((length all - length left) + 1) later)) (sym n)
    ∙ ap (λ (k : ℕ). change_line form origin o ++ flat_map (change_text form origin) (changes s next k later)) (sym at)

no_commands : (left : List Command) → length left ≡ 0 → left ≡ []
no_commands [] e = refl
no_commands (c ∷ cs) e = absurd (omega (arith, e))

pub last_text : (form : Form) (origin : Spot) (s : Stock) (r : Reached) (index : ℕ) (left : List Command) → length left ≡ 0 →
    flat_map (change_text form origin) (changes s r index left) ≡ []
last_text form origin s r index left e =
    ap (λ (l : List Command). flat_map (change_text form origin) (changes s r index l)) (no_commands left e)

pub first_index : (form : Form) (origin : Spot) (s : Stock) (r : Reached) (all : List Command) →
    flat_map (change_text form origin) (changes s r (length all - length all) all) ≡ flat_map (change_text form origin) (changes s r 0 all)
first_index form origin s r all =
    ap (λ (k : ℕ). flat_map (change_text form origin) (changes s r k all)) (let e : length all - length all ≡ 0 = omega arith in e)
