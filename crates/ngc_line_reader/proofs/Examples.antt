-- Texts, readings and faults of lines: worked examples, evaluated.
use Rattle.std.proofs.Common.{◌≡◌, ℕ, List, [], ◌∷◌, ◌++◌, Some, None, true, false, Err, refl, lit<}
use Rattle.std.specs.Prelude.{codes}
use Rattle.ngc_line_reader.specs.declared.token.Operator.TheVariants.{Add, Subtract, Multiply, Divide}
use Rattle.ngc_line_reader.specs.declared.fault.FaultKind.TheVariants.{TooLarge, UnknownCharacter, BadNumber, BadWord, BadLineNumber, CommentNotClosed}
use Rattle.ngc_line_reader.specs.declared.fault.FaultKind.TheVariants.{CommentNested, Bracket}
use Rattle.ngc_line_reader.specs.declared.letter.Letter.TheVariants as letters
use Rattle.ngc_line_reader.specs.Letter.{letter_of}
use Rattle.ngc_line_reader.specs.Text.{text, columns}
use Rattle.ngc_line_reader.specs.Grammar.{bare, plus, Real, number, parameter, bracket, close, next, Item, word, setting, comment, Reading, Reads, spelling}
use Rattle.ngc_line_reader.specs.Scan.{number_at, operator_at, real_at, rest_at}
use Rattle.ngc_line_reader.specs.ScanLine.{fault_at, word_at, value_after, setting_at, other_item_at, item_at, items_at, line_number_at, text_at}
use Rattle.ngc_line_reader.specs.ReadLine.{line_read}

abbrev whole : List ℕ → Real
whole ds = number (record { sign = bare; whole = ds; decimals = None })

abbrev plain : List Item → Reading
plain items = record { deleted = false; number = None; items = items; remark = None }

-- texts
blanks_in_numbers : text (codes "g0x +0. 12 34y 7") ≡ codes "G0X+0.1234Y7"
blanks_in_numbers = refl

comment_kept : text (codes "g 1 (a b) x;c d") ≡ codes "G1(a b)X;c d"
comment_kept = refl

return_dropped : text (codes "m 2" ++ (13 ∷ [])) ≡ codes "M2"
return_dropped = refl

return_inside_kept : text (codes "m" ++ (13 ∷ codes "2")) ≡ codes "M" ++ (13 ∷ codes "2")
return_inside_kept = refl

columns_of_what_stays : columns (codes " g 0") ≡ 2 ∷ (4 ∷ [])
columns_of_what_stays = refl

-- readings
first_row : Reads (codes "g0x +0. 12 34y 7")
    (plain (word letters.G (whole (codes "0"))
    ∷ (word letters.X (number (record { sign = plus; whole = codes "0"; decimals = Some (codes "1234") })) ∷ (word letters.Y (whole (codes "7")) ∷ []))))
first_row = ((tt, (((refl, tt), tt, lit< tt), (((refl, tt), (refl, (refl, (refl, (refl, tt)))), lit< tt), (((refl, tt), tt, lit< tt), tt)))), refl)

setting_row : Reads (codes "#3=6 G0 X#3")
    (plain (setting (whole (codes "3")) (whole (codes "6")) ∷ (word letters.G (whole (codes "0")) ∷ (word letters.X (parameter (whole (codes "3"))) ∷ []))))
setting_row = ((tt, ((((refl, tt), tt, lit< tt), ((refl, tt), tt, lit< tt)), (((refl, tt), tt, lit< tt), (((refl, tt), tt, lit< tt), tt)))), refl)

deleted_row : spelling
    (record {
      deleted = true;
      number = Some (codes "12");
      items = word letters.M (whole (codes "2")) ∷ (comment (codes "a b") ∷ []);
      remark = Some (codes " end");
    }) ≡ text (codes "/ n 1 2 m2 (a b); end")
deleted_row = refl

bracket_row : spelling
    (plain (word letters.X
    (bracket (whole (codes "2"))
    (next Add (whole (codes "3")) (next Multiply (whole (codes "4")) (next Subtract (whole (codes "10")) (next Divide (whole (codes "4")) close))))) ∷ []))
    ≡ text (codes "X[2+3*4-10/4]")
bracket_row = refl

-- the first fault from the left, and its column
two_points : line_read (codes "G0 X1.2.3") ≡ Err (fault_at BadNumber 4)
unfolding text_at line_number_at items_at item_at other_item_at word_at setting_at value_after real_at rest_at operator_at number_at letter_of
two_points = refl

comment_parts_digits : line_read (codes "G0 X1(a)2") ≡ Err (fault_at BadNumber 9)
unfolding text_at line_number_at items_at item_at other_item_at word_at setting_at value_after real_at rest_at operator_at number_at letter_of
comment_parts_digits = refl

comment_open : line_read (codes "G0 X12(b") ≡ Err (fault_at CommentNotClosed 7)
unfolding text_at line_number_at items_at item_at other_item_at word_at setting_at value_after real_at rest_at operator_at number_at letter_of
comment_open = refl

comment_in_comment : line_read (codes "(a(b") ≡ Err (fault_at CommentNested 1)
unfolding text_at line_number_at items_at item_at other_item_at word_at setting_at value_after real_at rest_at operator_at number_at letter_of
comment_in_comment = refl

sign_of_a_parameter : line_read (codes "G0 X-#1") ≡ Err (fault_at BadNumber 4)
unfolding text_at line_number_at items_at item_at other_item_at word_at setting_at value_after real_at rest_at operator_at number_at letter_of
sign_of_a_parameter = refl

sign_of_a_bracket : line_read (codes "G0 X-[1]") ≡ Err (fault_at BadNumber 4)
unfolding text_at line_number_at items_at item_at other_item_at word_at setting_at value_after real_at rest_at operator_at number_at letter_of
sign_of_a_bracket = refl

bracket_open : line_read (codes "G0 X[1+2") ≡ Err (fault_at Bracket 4)
unfolding text_at line_number_at items_at item_at other_item_at word_at setting_at value_after real_at rest_at operator_at number_at letter_of
bracket_open = refl

six_digits : line_read (codes "/N123456 G0") ≡ Err (fault_at BadLineNumber 2)
unfolding text_at line_number_at items_at item_at other_item_at word_at setting_at value_after real_at rest_at operator_at number_at letter_of
six_digits = refl

number_not_in_front : line_read (codes "G0 N1") ≡ Err (fault_at BadWord 4)
unfolding text_at line_number_at items_at item_at other_item_at word_at setting_at value_after real_at rest_at operator_at number_at letter_of
number_not_in_front = refl

too_large : line_read (codes "G0 X1000000001") ≡ Err (fault_at TooLarge 4)
unfolding text_at line_number_at items_at item_at other_item_at word_at setting_at value_after real_at rest_at operator_at number_at letter_of
too_large = refl

unknown_in_an_item : line_read (codes "G0 X 1 ? 2") ≡ Err (fault_at UnknownCharacter 8)
unfolding text_at line_number_at items_at item_at other_item_at word_at setting_at value_after real_at rest_at operator_at number_at letter_of
unknown_in_an_item = refl

index_without_value : line_read (codes "#1 2") ≡ Err (fault_at BadNumber 1)
unfolding text_at line_number_at items_at item_at other_item_at word_at setting_at value_after real_at rest_at operator_at number_at letter_of
index_without_value = refl
