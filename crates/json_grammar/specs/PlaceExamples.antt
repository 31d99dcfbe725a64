-- Worked examples of the places, computed.
use Rattle.std.specs.Prelude.{◌≡◌, refl, [], ◌∷◌, map, replicate}
use Rattle.abnf.specs.Accepts.{is_empty, again, starts, accepts}
use Rattle.text.specs.Ascii.{ascii}
use Rattle.text.specs.Utf8.{is_utf8}
use Rattle.text.specs.Utf8Place.{low, high, first, later, next, utf8_reach, utf8_place}
use Rattle.json_text.specs.Bytes.{byte, run, past, is_ws, ws, word, and_then}
use Rattle.json_text.specs.Strings.{is_hex, is_escape, plain_step, escape_step, hex_step, text_step, text, string_at}
use Rattle.json_text.specs.Number.{is_digit, digits_end, optional, is_minus, is_sign, some_digits, int_at, frac_at, is_exp, exp_at, number_at}
use Rattle.json_text.specs.Value.{kind_of, after, series, list_of, array_of, colon, key_at, member_of, object_of, value_of, value_at, at_end, document_of}
use Rattle.json_grammar.specs.Place.{bad_place, place_unless, bad_places, smallest, fault_place}

-- no byte; a word that ends early; a digit after a zero; something after the value; a comma before the brace; the bracket that opens level 17
ascii-texts : map fault_place (
    [] ∷
    ascii "tru" ∷
    ascii "[01]" ∷
    ascii "[] x" ∷
    ascii "{\"a\":1,}" ∷
    replicate 20 0x5B ∷
    []) ≡ 0 ∷ 3 ∷ 2 ∷ 3 ∷ 7 ∷ 16 ∷ []
unfolding fault_place smallest bad_places bad_place place_unless is_utf8 accepts starts again is_empty utf8_place utf8_reach next later first low high document_of at_end value_at value_of kind_of byte array_of list_of ws past run is_ws series and_then word after object_of member_of key_at colon string_at text text_step plain_step escape_step hex_step is_hex is_escape is_digit digits_end optional is_minus is_sign some_digits int_at frac_at is_exp exp_at number_at
ascii-texts = refl

-- "<C3>(  2: the second byte of a character is due
-- "<C3><A9>  3: the text ends early
-- "<C3>  2: it ends within a character
-- "<E2><82><AC>" <FF>  6: not UTF-8, and not JSON
-- "<FF>"  1: JSON over bytes, not UTF-8
-- {"a":1,}"<C3>(  7: not JSON sooner than not UTF-8
-- <EF><BB><BF>{}  0: the byte order mark
-- "<ED><A0>  2: a surrogate
-- "<C3><A9>"  4: nothing is wrong
texts : map fault_place (
    (0x22 ∷ 0xC3 ∷ 0x28 ∷ []) ∷
    (0x22 ∷ 0xC3 ∷ 0xA9 ∷ []) ∷
    (0x22 ∷ 0xC3 ∷ []) ∷
    (0x22 ∷ 0xE2 ∷ 0x82 ∷ 0xAC ∷ 0x22 ∷ 0x20 ∷ 0xFF ∷ []) ∷
    (0x22 ∷ 0xFF ∷ 0x22 ∷ []) ∷
    (0x7B ∷ 0x22 ∷ 0x61 ∷ 0x22 ∷ 0x3A ∷ 0x31 ∷ 0x2C ∷ 0x7D ∷ 0x22 ∷ 0xC3 ∷ 0x28 ∷ []) ∷
    (0xEF ∷ 0xBB ∷ 0xBF ∷ 0x7B ∷ 0x7D ∷ []) ∷
    (0x22 ∷ 0xED ∷ 0xA0 ∷ []) ∷
    (0x22 ∷ 0xC3 ∷ 0xA9 ∷ 0x22 ∷ []) ∷
    []) ≡ 2 ∷ 3 ∷ 2 ∷ 6 ∷ 1 ∷ 7 ∷ 0 ∷ 2 ∷ 4 ∷ []
unfolding fault_place smallest bad_places bad_place place_unless is_utf8 accepts starts again is_empty utf8_place utf8_reach next later first low high document_of at_end value_at value_of kind_of byte array_of list_of ws past run is_ws series and_then word after object_of member_of key_at colon string_at text text_step plain_step escape_step hex_step is_hex is_escape is_digit digits_end optional is_minus is_sign some_digits int_at frac_at is_exp exp_at number_at
texts = refl
