-- Topics of the domain `homie`, read by the definition.
use mathlib.Core.List.{[], ◌∷◌}
use mathlib.Core.Path.{◌≡◌, refl}
use Prim.Native.String.{String}
use Rattle.answer.specs.Answer.{Answer, refused, gives, require, only}
use Rattle.text.specs.Bytes.{eq_bytes, every}
use Rattle.text.specs.Ascii.{ascii}
use Rattle.text.specs.Split.{split, onto}
use Rattle.text.specs.Ids.{is_id, id_byte}
use Rattle.topic.specs.Form.{Form, state, value, set, log, broadcast, other}
use Rattle.topic.specs.Topics.{is, one_of, dollar_id, other_word, filled, fits, end, each, when◌give◌else◌, form_of, read_levels, read_topic}

abbrev homie : String → Answer Form
homie topic = read_topic (ascii "homie") (ascii topic)

pub examples :
    (homie "" ≡ refused (only 8)) ×
    (homie "homie" ≡ refused (only 8)) ×
    (homie "homie/5" ≡ refused (only 9)) ×
    (homie "homie/5x/lamp/$state" ≡ refused (only 8)) ×
    (homie "homi/5/lamp/$state" ≡ refused (only 8)) ×
    (homie "homie/5/lamp/$state" ≡ gives (state (ascii "lamp"))) ×
    (homie "homie/5/lamp/$state/x" ≡ refused (only 9)) ×
    (homie "homie/5/lamp/light/on" ≡ gives (value (ascii "lamp") (ascii "light") (ascii "on"))) ×
    (homie "homie/5/lamp/light/on/set" ≡ gives (set (ascii "lamp") (ascii "light") (ascii "on"))) ×
    (homie "homie/5/lamp//on" ≡ refused (only 9)) ×
    (homie "homie/5/lamp/$log/warn" ≡ gives (log (ascii "lamp") (ascii "warn"))) ×
    (homie "homie/5/lamp/$log/trace" ≡ refused (only 9)) ×
    (homie "homie/5/$broadcast/alarm/-a-" ≡ gives (broadcast (ascii "alarm" ∷ ascii "-a-" ∷ []))) ×
    (homie "homie/5/$broadcast" ≡ refused (only 9)) ×
    (homie "homie/5/lamp/$x/A b/$" ≡ gives (other (ascii "lamp") (ascii "x") (ascii "A b" ∷ ascii "$" ∷ []))) ×
    (homie "homie/5/lamp/$x/" ≡ refused (only 9))
unfolding require eq_bytes every split onto is_id id_byte is one_of dollar_id other_word filled fits end each when◌give◌else◌ form_of read_levels read_topic
examples = (refl, refl, refl, refl, refl, refl, refl, refl, refl, refl, refl, refl, refl, refl, refl, refl)
