-- Paper 01, "Payloads of properties": "color: a type that the format lists, then comma-separated floats: rgb three of 0 to 255;
-- hsv 0 to 360, then two of 0 to 100; xyz two of 0 to 1; ends included."
use Rattle.std.specs.Prelude.{ℕ, List, [], ◌∷◌, Bool, true, false, ◌&&◌, cond}
use Rattle.text.specs.Bytes.{eq_bytes}
use Rattle.entries.specs.Entries.{entries_of, is_in}
use Rattle.ranges.specs.Ranges.{is_float_up_to}
use Rattle.text.specs.Ascii.{ascii}

-- one float for each, from 0 to it
unfoldable pub floats_up_to : List ℕ → List (List ℕ) → Bool
floats_up_to [] [] = true
floats_up_to [] (v ∷ vs) = false
floats_up_to (m ∷ ms) [] = false
floats_up_to (m ∷ ms) (v ∷ vs) = is_float_up_to m v && floats_up_to ms vs

unfoldable pub color_values : List ℕ → List (List ℕ) → Bool
unfolding floats_up_to eq_bytes
color_values type values =
    cond (eq_bytes type (ascii "rgb")) (floats_up_to (255 ∷ 255 ∷ 255 ∷ []) values)
    (cond (eq_bytes type (ascii "hsv")) (floats_up_to (360 ∷ 100 ∷ 100 ∷ []) values)
    (cond (eq_bytes type (ascii "xyz")) (floats_up_to (1 ∷ 1 ∷ []) values) false))

unfoldable pub color_of : List ℕ → List (List ℕ) → Bool
unfolding color_values is_in
color_of format [] = false
color_of format (type ∷ values) = is_in type (entries_of format) && color_values type values

unfoldable pub is_color : List ℕ → List ℕ → Bool
unfolding color_of
is_color format s = color_of format (entries_of s)
