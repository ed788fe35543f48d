-- Worked pieces on a mill of 300 mm with steps of 0.01 mm, by evaluating the definitions.
use Rattle.std.proofs.Common.{◌≡◌, ◌∙◌, ap, ap₂, ℕ, ℤ, pos, negsuc, List, [], ◌∷◌, false, Some, None, Ok, Err, refl}
use Rattle.std.specs.Prelude.{codes, Result}
use Rattle.std.specs.Fmt.{digits}
use Rattle.ngc_fixed_length.specs.Roots.{whole_root, whole_root_above}
use Rattle.ngc_fixed_length.specs.Places.{zero_point}
use Rattle.ngc_fixed_length.specs.declared.modes.Plane.TheVariants.{XY}
use Rattle.ngc_fixed_length.specs.declared.modes.Turn.TheVariants.{Clockwise}
use Rattle.ngc_fixed_length.specs.declared.points.GridBox.{GridBox}
use Rattle.ngc_fixed_length.specs.declared.points.Point3.{Point3}
use Rattle.ngc_arc_geometry.specs.Shape.{ArcShape}
use Rattle.ngc_machine_files.specs.Machine.{MachineFile, built_in_machine}
use Rattle.ngc_commands.specs.declared.command.Action.TheVariants.{Move, Mount}
use Rattle.ngc_commands.specs.declared.command.Command.{Command}
use Rattle.ngc_commands.specs.declared.movement.Pace.TheVariants.{Rapid}
use Rattle.ngc_commands.specs.declared.movement.Way.{Way}
use Rattle.ngc_commands.specs.declared.movement.Way.TheVariants.{Line, Arc}
use Rattle.ngc_certificate_text.specs.declared.piece.Cut.TheVariants.{Part, Place}
use Rattle.ngc_certificate_text.specs.declared.piece.Piece.{Piece}
use Rattle.ngc_certificate_text.specs.declared.piece.Setting.TheVariants.{Off, On}
use Rattle.ngc_certificate_text.specs.Certificate.{Entry, CertificateData}
use Rattle.ngc_certificate_text.specs.Spelling.{version_1_text}
use Rattle.ngc_certificate.specs.declared.fault.MakeFault.{MakeFault}
use Rattle.ngc_certificate.specs.declared.fault.MakeFault.TheVariants.{NotCleared}
use Rattle.ngc_certificate.specs.declared.fault.PieceFault.TheVariants.{Chain, NotCovered, OutsideTravel, MeetsFixture}
use Rattle.ngc_certificate.specs.Made.{pieces_of, cleared, tries, with_pieces, join_settings, IsSettingMade, IsMade}
use Rattle.ngc_certificate.specs.PieceFault.{pieces_fault, at_piece}

abbrev point : ℤ → ℤ → ℤ → Point3
point x y z = record { x = x; y = y; z = z }

abbrev box : ℤ → ℤ → ℤ → ℤ → ℤ → ℤ → GridBox
box x y z x' y' z' = record { low = record { x = x; y = y; z = z }; high = record { x = x'; y = y'; z = z' } }

abbrev line : ℕ → GridBox → Piece
line t b = record { end = Part t; bounds = b }

abbrev with_fixture : Point3 → Point3 → MachineFile
with_fixture low high = record built_in_machine { fixtures = record { low = low; high = high; name = []; system = 0 } ∷ [] }

-- from zero, along X to x
abbrev along_x : ℤ → Way
along_x x = Line zero_point (point x (pos 0) (pos 0))

abbrev both : List Piece → CertificateData
both pieces = record { off = record { index = 0; pieces = pieces } ∷ []; on = record { index = 0; pieces = pieces } ∷ [] }

-- ---- a traverse of 0.03 mm

text : version_1_text (both (pieces_of (pos 10000) (along_x (pos 30000)) 1))
    ≡ codes "ngc-certificate 1\nsetting off 1\nmotion 0 1\nline 65536 0 0 0 3 0 0\nsetting on 1\nmotion 0 1\nline 65536 0 0 0 3 0 0\nend\n"
unfolding digits
text = refl

accepted : pieces_fault built_in_machine None (along_x (pos 30000)) (line 65536 (box (pos 0) (pos 0) (pos 0) (pos 3) (pos 0) (pos 0)) ∷ []) ≡ None
accepted = refl

too_small : pieces_fault built_in_machine None (along_x (pos 30000)) (line 65536 (box (pos 0) (pos 0) (pos 0) (pos 2) (pos 0) (pos 0)) ∷ [])
    ≡ Some (at_piece 0 NotCovered)
too_small = refl

larger : pieces_fault built_in_machine None (along_x (pos 30000)) (line 65536 (box (pos 0) (pos 0) (pos 0) (pos 4) (pos 0) (pos 0)) ∷ []) ≡ None
larger = refl

outside : pieces_fault built_in_machine None (along_x (pos 30000)) (line 65536 (box (negsuc 0) (pos 0) (pos 0) (pos 3) (pos 0) (pos 0)) ∷ [])
    ≡ Some (at_piece 0 OutsideTravel)
outside = refl

too_short : pieces_fault built_in_machine None (along_x (pos 30000)) (line 65535 (box (pos 0) (pos 0) (pos 0) (pos 3) (pos 0) (pos 0)) ∷ [])
    ≡ Some (at_piece 0 Chain)
too_short = refl

twice : pieces_fault built_in_machine None (along_x (pos 30000))
    (line 65536 (box (pos 0) (pos 0) (pos 0) (pos 3) (pos 0) (pos 0)) ∷ line 65536 (box (pos 0) (pos 0) (pos 0) (pos 3) (pos 0) (pos 0)) ∷ [])
    ≡ Some (at_piece 1 Chain)
twice = refl

-- ---- the travel's border

to_the_border : pieces_fault built_in_machine None (along_x (pos 300000000)) (pieces_of (pos 10000) (along_x (pos 300000000)) 1) ≡ None
to_the_border = refl

beyond_the_border : pieces_fault built_in_machine None (along_x (pos 300006000)) (pieces_of (pos 10000) (along_x (pos 300006000)) 1)
    ≡ Some (at_piece 0 OutsideTravel)
beyond_the_border = refl

-- ---- a fixture beside a slanted line: the undivided line meets it, in two pieces it does not

abbrev slanted : Way
slanted = Line zero_point (point (pos 10000000) (pos 10000000) (pos 0))

abbrev beside : MachineFile
beside = with_fixture (point (pos 8000000) (pos 0) (negsuc 999999)) (point (pos 10000000) (pos 2000000) (pos 1000000))

slanted_whole : pieces_fault beside None slanted (pieces_of (pos 10000) slanted 1) ≡ Some (at_piece 0 (MeetsFixture 0))
slanted_whole = refl

slanted_pieces : pieces_of (pos 10000) slanted 2 ≡ line 32768 (box (pos 0) (pos 0) (pos 0) (pos 501) (pos 501) (pos 0))
    ∷ line 65536 (box (pos 499) (pos 499) (pos 0) (pos 1000) (pos 1000) (pos 0)) ∷ []
slanted_pieces = refl

slanted_clear : pieces_fault beside None slanted (pieces_of (pos 10000) slanted 2) ≡ None
slanted_clear = refl

abbrev one_line : List Command
one_line = record { line = 1; action = Move (record { way = slanted; pace = Rapid; stop = false }) } ∷ []

one_motion : (most : ℕ) (says : Result (List Entry) ℕ) → IsSettingMade beside most one_line says →
    says ≡ with_pieces 0 (cleared beside most None slanted) (Ok [])
one_motion most says made = made.4 ∙ ap₂ (with_pieces 0) made.2 made.3

in_one_piece : (says : Result CertificateData MakeFault) → IsMade beside 1 one_line one_line says → says ≡ Err (NotCleared Off 0)
in_one_piece says made = made.4 ∙ ap₂ join_settings (one_motion 1 made.0 made.2) (one_motion 1 made.1 made.3)

in_two_pieces : (says : Result CertificateData MakeFault) → IsMade beside 2 one_line one_line says → says ≡ Ok (both (pieces_of (pos 10000) slanted 2))
in_two_pieces says made = made.4 ∙ ap₂ join_settings (one_motion 2 made.0 made.2) (one_motion 2 made.1 made.3)

-- the line is only at one setting
at_one_setting : (says : Result CertificateData MakeFault) → IsMade beside 1 [] one_line says → says ≡ Err (NotCleared On 0)
at_one_setting says made = made.4 ∙ ap₂ join_settings made.2 (one_motion 1 made.1 made.3)

-- ---- a full circle round a fixture, in one piece

abbrev circle : ArcShape
circle = record {
  plane = XY;
  turn = Clockwise;
  start = point (pos 10000000) (pos 50000000) (pos 0);
  end = point (pos 10000000) (pos 50000000) (pos 0);
  centre = record { u = pos 40000000; v = pos 50000000 };
}

circle_pieces : pieces_of (pos 10000) (Arc circle) 8
    ≡ record { end = Place (record { u = pos 10000000; v = pos 50000000 }); bounds = box (pos 998) (pos 1998) (pos 0) (pos 7002) (pos 8002) (pos 0) } ∷ []
unfolding whole_root whole_root_above
circle_pieces = refl

circle_met : pieces_fault (with_fixture (point (pos 38000000) (pos 48000000) (negsuc 49999999)) (point (pos 42000000) (pos 52000000) (pos 10000000))) None
    (Arc circle) (pieces_of (pos 10000) (Arc circle) 1) ≡ Some (at_piece 0 (MeetsFixture 0))
unfolding whole_root whole_root_above
circle_met = refl

-- ---- the start, and tool changes there

start_met : (says : Result CertificateData MakeFault) →
    IsMade (with_fixture (point (negsuc 999999) (negsuc 999999) (negsuc 999999)) (point (pos 1000000) (pos 1000000) (pos 1000000))) 8 [] [] says →
    says ≡ Err (NotCleared Off 0)
start_met says made = made.4

abbrev below : MachineFile
below = with_fixture (point (negsuc 19999999) (negsuc 9999999) (negsuc 99999999)) (point (negsuc 1999999) (pos 10000000) (negsuc 29999999))

abbrev mounted : ℕ → ℤ → ℤ → List Command
mounted number bottom length =
    record {
      line = 1;
      action =
          Mount (Some (record { number = number; offset = pos 0; bottom = bottom; parts = record { length = length; radius = pos 3000000 } ∷ []; name = [] }));
    } ∷ []

-- a tool of 60 mm extends into the fixture, one of 20 mm does not
long_tool : (says : Result CertificateData MakeFault) → IsMade below 8 (mounted 2 (negsuc 59999999) (pos 60000000)) [] says → says ≡ Err (NotCleared Off 0)
long_tool says made = made.4 ∙ ap (λ first. join_settings first made.1) made.2.2

short_tool : (says : Result CertificateData MakeFault) → IsMade below 8 (mounted 1 (negsuc 19999999) (pos 20000000)) [] says →
    says ≡ Ok (record { off = []; on = [] })
short_tool says made = made.4 ∙ ap₂ join_settings (made.2.2 ∙ made.2.1) made.3

-- ---- numbers of pieces

tries_of_five : tries 5 ≡ 1 ∷ 2 ∷ 4 ∷ 5 ∷ []
tries_of_five = refl

tries_of_eight : tries 8 ≡ 1 ∷ 2 ∷ 4 ∷ 8 ∷ []
tries_of_eight = refl
