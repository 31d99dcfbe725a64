-- Paper 02, K2: what a device's description hands on to the next one, property by property.
use Rattle.std.specs.Prelude.{List, map, Bool, true, false, ◌&&◌, Option, None, Some}
use Rattle.answer.specs.Answer.{Answer, refused, gives}
use Rattle.payload.specs.Payloads.{is_payload}
use Rattle.properties.specs.Property as declaration
use Rattle.description.specs.Description.{Described}
use Rattle.rules.specs.Table.{Held, Property, Description}
use Rattle.rules.specs.Find.{find_property}

-- "the payload is valid under the new datatype and format"; an empty lane has none
unfoldable pub still_valid : declaration.Property → Option Held → Bool
still_valid p None = false
still_valid p (Some h) = is_payload p.datatype p.format h.payload

-- "keeps a .. lane, with its time, if ..", else it is empty
unfoldable pub kept_if : Bool → Option Held → Option Held
kept_if true h = h
kept_if false h = None

-- the property that is declared now, by what was found under its IDs
unfoldable pub succeeding : declaration.Property → Answer Property → Property
succeeding p (refused n) = record { declared = p; value = None; target = None; asked = None }
succeeding p (gives q) = record {
  declared = p;
  -- "a value lane .. if the property exists before and after, is retained in both, and the payload is valid under the new datatype and format"
  value = kept_if ((q.declared.retained && p.retained) && still_valid p q.value) q.value;
  -- "The target lane is kept if the property exists in both and the payload is valid."
  target = kept_if (still_valid p q.target) q.target;
  -- "The asked lane is emptied, because a set is never retained."
  asked = None;
}

-- a property is the same one where its node's ID and its own are
unfoldable pub successor : (old : List Property) → declaration.Property → Property
successor old p = succeeding p (find_property p.node p.id old)

-- a description that a device publishes where it had these properties
unfoldable pub republished : (old : List Property) → Described → Description
republished old x = record { root = x.root; parent = x.parent; version = x.version; properties = map (successor old) x.properties }
