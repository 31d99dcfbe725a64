-- Worked examples of the reader, computed: each text with its answer.
use Rattle.std.specs.Prelude.{◌≡◌, refl, [], ◌∷◌, map, Err, Ok}
use Rattle.json_text.specs.Bytes.{byte, run, past, is_ws, ws, word, and_then}
use Rattle.json_text.specs.Strings.{is_hex, is_escape, plain_step, escape_step, hex_step, text_step, text, string_at}
use Rattle.json_text.specs.Number.{is_digit, digits_end, optional, is_minus, is_sign, some_digits, int_at, frac_at, is_exp, exp_at, number_at}
use Rattle.json_text.specs.Value.{kind_of, after, series, list_of, array_of, colon, key_at, member_of, object_of, value_of, value_at, at_end, document_of}

-- []  Ok 2
--  {"a":[1,-2.5e+3,"\u00e9"],"b":null}   Ok 37
--   Err 0
-- 01  Err 1
-- -  Err 1
-- 1.  Err 2
-- 1e  Err 2
-- 1 2  Err 2
-- tru}  Err 3
-- "a<1F>"  Err 2
-- "\x"  Err 2
-- "\u12  Err 5
-- [1,]  Err 3
-- {"a":1,}  Err 7
-- {"a" 1}  Err 5
-- [[[[[[[[[[[[[[[[]]]]]]]]]]]]]]]]  Ok 32
-- [[[[[[[[[[[[[[[[[]]]]]]]]]]]]]]]]]  Err 16
examples : map document_of (
    (91 ∷ 93 ∷ []) ∷
    (32 ∷ 123 ∷ 34 ∷ 97 ∷ 34 ∷ 58 ∷ 91 ∷ 49 ∷ 44 ∷ 45 ∷ 50 ∷ 46 ∷ 53 ∷ 101 ∷ 43 ∷ 51 ∷ 44 ∷ 34 ∷ 92 ∷ 117 ∷ 48 ∷ 48 ∷ 101 ∷ 57 ∷ 34 ∷ 93 ∷ 44 ∷ 34 ∷ 98 ∷ 34 ∷ 58 ∷ 110 ∷ 117 ∷ 108 ∷ 108 ∷ 125 ∷ 32 ∷ []) ∷
    ([]) ∷
    (48 ∷ 49 ∷ []) ∷
    (45 ∷ []) ∷
    (49 ∷ 46 ∷ []) ∷
    (49 ∷ 101 ∷ []) ∷
    (49 ∷ 32 ∷ 50 ∷ []) ∷
    (116 ∷ 114 ∷ 117 ∷ 125 ∷ []) ∷
    (34 ∷ 97 ∷ 31 ∷ 34 ∷ []) ∷
    (34 ∷ 92 ∷ 120 ∷ 34 ∷ []) ∷
    (34 ∷ 92 ∷ 117 ∷ 49 ∷ 50 ∷ []) ∷
    (91 ∷ 49 ∷ 44 ∷ 93 ∷ []) ∷
    (123 ∷ 34 ∷ 97 ∷ 34 ∷ 58 ∷ 49 ∷ 44 ∷ 125 ∷ []) ∷
    (123 ∷ 34 ∷ 97 ∷ 34 ∷ 32 ∷ 49 ∷ 125 ∷ []) ∷
    (91 ∷ 91 ∷ 91 ∷ 91 ∷ 91 ∷ 91 ∷ 91 ∷ 91 ∷ 91 ∷ 91 ∷ 91 ∷ 91 ∷ 91 ∷ 91 ∷ 91 ∷ 91 ∷ 93 ∷ 93 ∷ 93 ∷ 93 ∷ 93 ∷ 93 ∷ 93 ∷ 93 ∷ 93 ∷ 93 ∷ 93 ∷ 93 ∷ 93 ∷ 93 ∷ 93 ∷ 93 ∷ []) ∷
    (91 ∷ 91 ∷ 91 ∷ 91 ∷ 91 ∷ 91 ∷ 91 ∷ 91 ∷ 91 ∷ 91 ∷ 91 ∷ 91 ∷ 91 ∷ 91 ∷ 91 ∷ 91 ∷ 91 ∷ 93 ∷ 93 ∷ 93 ∷ 93 ∷ 93 ∷ 93 ∷ 93 ∷ 93 ∷ 93 ∷ 93 ∷ 93 ∷ 93 ∷ 93 ∷ 93 ∷ 93 ∷ 93 ∷ 93 ∷ []) ∷
    []) ≡ Ok 2 ∷ Ok 37 ∷ Err 0 ∷ Err 1 ∷ Err 1 ∷ Err 2 ∷ Err 2 ∷ Err 2 ∷ Err 3 ∷ Err 2 ∷ Err 2 ∷ Err 5 ∷ Err 3 ∷ Err 7 ∷ Err 5 ∷ Ok 32 ∷ Err 16 ∷ []
unfolding document_of at_end value_at value_of kind_of byte array_of list_of ws past run is_ws series and_then word after object_of member_of key_at colon string_at text text_step plain_step escape_step hex_step is_hex is_escape is_digit digits_end optional is_minus is_sign some_digits int_at frac_at is_exp exp_at number_at
examples = refl
