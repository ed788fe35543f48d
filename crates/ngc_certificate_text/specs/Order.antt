-- The storage of entries: the motions of both settings, and the settings of each entry. Our own.
use Rattle.std.specs.Prelude.{◌≡◌, List, [], ◌∷◌, map, Option, Some, None}
use Rattle.ngc_certificate_text.specs.declared.expected.Indices.{Indices}
use Rattle.ngc_certificate_text.specs.declared.expected.Indices.TheVariants as of
use Rattle.ngc_certificate_text.specs.declared.certificate.EntryKind.{EntryKind}
use Rattle.ngc_certificate_text.specs.declared.certificate.EntryKind.TheVariants.{Both, Off, On}
use Rattle.ngc_certificate_text.specs.Certificate.{Entry}
use Rattle.ngc_certificate_text.specs.Joined.{Item, expansion, Form, Parted, Joined}

abbrev pub kind_of : Indices → EntryKind
kind_of (of.Both i j) = Both
kind_of (of.Off i) = Off
kind_of (of.On j) = On

abbrev pub kinds_of : List Item → List EntryKind
kinds_of items = map (λ (x : Item). kind_of x.indices) items

-- the entries of these kinds, made of the motions of both settings
abbrev pub items_in : List EntryKind → List Entry → List Entry → List Item
items_in [] off on = []
items_in (Both ∷ kinds) [] on = []
items_in (Both ∷ kinds) (a ∷ off) [] = []
items_in (Both ∷ kinds) (a ∷ off) (b ∷ on) =
    record { indices = of.Both a.index b.index; pieces = a.pieces } ∷ items_in kinds off on
items_in (Off ∷ kinds) [] on = []
items_in (Off ∷ kinds) (a ∷ off) on =
    record { indices = of.Off a.index; pieces = a.pieces } ∷ items_in kinds off on
items_in (On ∷ kinds) off [] = []
items_in (On ∷ kinds) off (b ∷ on) =
    record { indices = of.On b.index; pieces = b.pieces } ∷ items_in kinds off on

-- each motion is one of an entry, and the motions of an entry of both settings have the same pieces
pub record IsWhole (kinds : List EntryKind) (off on : List Entry) : Type 0 where
  pub all : kinds_of (items_in kinds off on) ≡ kinds
  pub motions : expansion (items_in kinds off on) ≡ record { off = off; on = on }

-- the form of a certificate: version 2 if the kinds of its entries are stored
abbrev pub form_in : Option (List EntryKind) → List Entry → List Entry → Form
form_in None off on = Parted (record { off = off; on = on })
form_in (Some kinds) off on = Joined (items_in kinds off on)
