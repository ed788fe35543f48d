-- Statements about a file's text, and about the contents of a run's files.
use Rattle.std.proofs.Common.{◌≡◌, ℕ, List, [], Option, Some, None, Result, Ok, Err, IfSome, ap, refl, subst, sym, ◌∙◌}
use Rattle.std.specs.Prelude.{IsOk}
use Rattle.ngc_canonical.specs.State.{Setup}
use Rattle.ngc_machine_files.specs.Machine.{MachineFile, built_in_machine}
use Rattle.ngc_machine_files.specs.declared.fault.FileFault.{FileFault}
use Rattle.ngc_machine_files.specs.declared.tools.Tool.{Tool}
use Rattle.ngc_written_machines.specs.Reading.{any_machine}
use Rattle.ngc_written_tools.specs.Reading.{any_tools}
use Rattle.ngc_inputs.specs.Setups.{FileBytes, IfParsed, KeepsFiles, IfMachine, IfTools, OnSetup, AreSetup, Refuses, IfSaid}
use Rattle.ngc_inputs.specs.Setups.{OnPlaced, changed_in}
use Rattle.ngc_inputs.specs.Shops.{PlacedResultIs, ShopResultIs, IsPlaced, RefusesMachine, RefusesPlaced, RefusesShop, RefusesTools}
use Rattle.ngc_inputs.specs.declared.setup.Shop.{Shop}
use Rattle.ngc_machine_files.specs.Machine.{file_of}
use Rattle.ngc_machine_files.specs.Tools.{tools_of}
use Rattle.ngc_margins.specs.Changes.{changed}
use Rattle.ngc_margins.specs.declared.changes.Changes.{Changes}
use Rattle.ngc_inputs.specs.declared.fault.AnswerFault.{AnswerFault}
use Rattle.ngc_inputs.specs.declared.fault.AnswerFault.TheVariants as answers

-- of the bytes that were read, and so of those of the file
pub carried : (known : Option (List ℕ)) (items slice : List ℕ) (P : List ℕ → Type 0) → slice ≡ items → IfSome known (λ bytes. items ≡ bytes) → P slice →
    IfSome known P
carried None items slice P same read p = tt
carried (Some bytes) items slice P same read p = subst P (same ∙ read) p

-- what kept files say is the same
pub kept_said : {T : Type 0} (read : List ℕ → T) (nothing : T) (old new : FileBytes) (name : Option (List ℕ)) (P : T → Type 0)
    → KeepsFiles old new → IfSaid read nothing new name P → IfSaid read nothing old name P
kept_said read nothing old new None P keeps p = p
kept_said read nothing old new (Some name) P keeps p =
    subst (λ (known : Option (List ℕ)). IfSome known (λ text. P (read text))) (keeps (Some name)) p

-- what holds of it holds where more holds
pub said_weaker : {T : Type 0} (read : List ℕ → Result T FileFault) (builtin : T) (bytes : FileBytes) (name : Option (List ℕ))
    (P Q : Result T FileFault → Type 0)
    → ((says : Result T FileFault) → P says → Q says) → IfParsed read builtin bytes name P → IfParsed read builtin bytes name Q
said_weaker read builtin bytes None P Q on p = on (Ok builtin) p
said_weaker read builtin bytes (Some name) P Q on p = some_weaker (bytes (Some name)) p where
  some_weaker : (known : Option (List ℕ)) → IfSome known (λ text. P (read text)) → IfSome known (λ text. Q (read text))
  some_weaker None p = tt
  some_weaker (Some text) p = on (read text) p

-- files that were kept have the same contents
pub said_before : {T : Type 0} (read : List ℕ → Result T FileFault) (builtin : T) (old new : FileBytes) (name : Option (List ℕ))
    (P : Result T FileFault → Type 0)
    → KeepsFiles old new → IfParsed read builtin new name P → IfParsed read builtin old name P
said_before read builtin old new None P keeps p = p
said_before read builtin old new (Some name) P keeps p = subst (λ (known : Option (List ℕ)). IfSome known (λ text. P (read text))) (keeps (Some name)) p

-- a property of the machine and the tools that were read holds for the contents of the two files
pub on_setup : (bytes : FileBytes) (machine tools : Option (List ℕ)) (setup : Setup) (P : Setup → Type 0)
    → IfMachine bytes machine (λ says. says ≡ Ok setup.machine) → IfTools bytes tools (λ says. says ≡ Ok setup.tools) → P setup
    → OnSetup bytes machine tools P
on_setup bytes machine tools setup P parsed_machine parsed_tools p =
    said_weaker any_machine built_in_machine bytes machine (λ says. says ≡ Ok setup.machine)
    (λ m. IfTools bytes tools (λ t. (s : Setup) × AreSetup m t s × P s))
    (λ m said_m.
    said_weaker any_tools [] bytes tools (λ says. says ≡ Ok setup.tools) (λ t. (s : Setup) × AreSetup m t s × P s)
    (λ t said_t. (setup, record { parsed_machine = said_m; parsed_tools = said_t }, p)) parsed_tools)
    parsed_machine

-- and with changes, for the contents of the two files and these changes
pub on_placed : (bytes : FileBytes) (machine tools : Option (List ℕ)) (changes : Changes) (setup : Setup) (P : Setup → Type 0)
    → IfMachine bytes machine (IsPlaced changes setup.machine) → IfTools bytes tools (λ says. says ≡ Ok setup.tools) → P setup
    → OnPlaced bytes machine tools changes P
on_placed bytes machine tools changes setup P parsed_machine parsed_tools p =
    said_weaker any_machine built_in_machine bytes machine (IsPlaced changes setup.machine)
    (λ m. IfTools bytes tools (λ t. (s : Setup) × AreSetup (changed_in changes m) t s × P s))
    (λ m said_m.
    said_weaker any_tools [] bytes tools (λ says. says ≡ Ok setup.tools) (λ t. (s : Setup) × AreSetup (changed_in changes m) t s × P s)
    (λ t said_t. (setup, record { parsed_machine = said_m; parsed_tools = said_t }, p)) parsed_tools)
    parsed_machine

-- a machine and its tools that were read, with these changes
pub shop_placed : (bytes : FileBytes) (machine tools : Option (List ℕ)) (changes : Changes) (shop placed_shop : Shop)
    → ShopResultIs bytes machine tools (Ok shop) → changed changes (file_of shop.machine) ≡ Ok (file_of placed_shop.machine)
    → tools_of placed_shop.tools ≡ tools_of shop.tools → PlacedResultIs bytes machine tools changes (Ok placed_shop)
shop_placed bytes machine tools changes shop placed_shop said placed_machine same_tools = (
  said_weaker any_machine built_in_machine bytes machine (λ says. says ≡ Ok (file_of shop.machine)) (IsPlaced changes (file_of placed_shop.machine))
      (λ says is. ap (changed_in changes) is ∙ placed_machine) said.0,
  said_weaker any_tools [] bytes tools (λ says. says ≡ Ok (tools_of shop.tools)) (λ says. says ≡ Ok (tools_of placed_shop.tools))
      (λ says is. is ∙ ap Ok (sym same_tools)) said.1,
)

-- changes that a machine that was read refuses
pub changes_refused : (bytes : FileBytes) (machine tools : Option (List ℕ)) (changes : Changes) (shop : Shop) (e : FileFault)
    → ShopResultIs bytes machine tools (Ok shop) → Refuses e (changed changes (file_of shop.machine))
    → PlacedResultIs bytes machine tools changes (Err (answers.Machine e))
changes_refused bytes machine tools changes shop e said refused =
    said_weaker any_machine built_in_machine bytes machine (λ says. says ≡ Ok (file_of shop.machine)) (λ says. Refuses e (changed_in changes says))
    (λ says is held. ap (changed_in changes) is ∙ refused held) said.0

-- a refusal of one of the two files
pub shop_refused : (bytes : FileBytes) (machine tools : Option (List ℕ)) (changes : Changes) (fault : AnswerFault) → RefusesShop bytes machine tools fault
    → RefusesPlaced bytes machine tools changes fault
shop_refused bytes machine tools changes (answers.Machine e) refuses =
    said_weaker any_machine built_in_machine bytes machine (Refuses e) (λ says. Refuses e (changed_in changes says))
    (λ says refused held. ap (changed_in changes) (refused held)) refuses
shop_refused bytes machine tools changes (answers.Tools e) refuses = refuses
shop_refused bytes machine tools changes (answers.Input e) refuses = refuses
shop_refused bytes machine tools changes _ refuses = absurd refuses

-- of a file's bytes, from a source with these bytes
pub of_file : (known source : Option (List ℕ)) (P : List ℕ → Type 0) → source ≡ known → IfSome source P → IfSome known P
of_file known source P is p = subst (λ (k : Option (List ℕ)). IfSome k P) is p

-- a machine file that is refused, and a tool table after a machine file that was read
pub refused_machine : (bytes : FileBytes) (machine tools : Option (List ℕ)) (fault : AnswerFault) → RefusesMachine bytes machine fault →
    RefusesShop bytes machine tools fault
refused_machine bytes machine tools (answers.Machine e) refuses = refuses
refused_machine bytes machine tools (answers.Input e) refuses = tt
refused_machine bytes machine tools _ refuses = absurd refuses

pub refused_tools : (bytes after : FileBytes) (machine tools : Option (List ℕ)) (m : MachineFile) (fault : AnswerFault)
    → IfMachine bytes machine (λ says. says ≡ Ok m) → KeepsFiles bytes after → RefusesTools after tools fault → RefusesShop bytes machine tools fault
refused_tools bytes after machine tools m (answers.Tools e) read keeps refuses = (
  said_weaker any_machine built_in_machine bytes machine (λ says. says ≡ Ok m) IsOk (λ says is_m. subst IsOk (sym is_m) refl) read,
  said_before any_tools [] bytes after tools (Refuses e) keeps refuses,
)
refused_tools bytes after machine tools m (answers.Input e) read keeps refuses = tt
refused_tools bytes after machine tools m _ read keeps refuses = absurd refuses
