-- What is shown from a room: byte strings, properties and lanes, at places of the memory.
use Rattle.std.specs.Prelude.{Option, None, Some, Ok, Err}
use Prim.Native.Nat.{ℕ, ◌+◌, ◌≤◌, ◌<◌}
use native.Mathlib.Omega.{arith}
use mathlib.Core.Path.{◌≡◌, sym, ap, ◌∙◌, subst}
use mathlib.Core.List.{List}
use lib.ListN.{length, get_or}
use Rattle.answer.specs.Answer.{Answer, gives, and_then, only}
use Rattle.text.specs.declared.Place.{Place}
use Rattle.text.specs.Places.{bytes_at, Within}
use Rattle.memory.specs.Bytes.{span}
use Rattle.memory.specs.Layout.{room_size}
use Rattle.properties.specs.Property as declaration
use Rattle.rules.specs.declared.LaneKind.{LaneKind}
use Rattle.rules.specs.Table as table
use Rattle.rules.specs.Table.{properties_of, lane_of}
use Rattle.rules.specs.Find.{find_property, first_at, is_named}
use Rattle.rules.specs.Questions.{Value, an_id, a_text, a_property, a_lane, at}
use Rattle.rules.proofs.Ranks.{property_rank, property-none, first-within}
use Rattle.device.specs.Layout.{record_at}
use Rattle.device.specs.Decode.{record_of, device_of}
use Rattle.device.specs.declared.Lane.{Lane}
use Rattle.device.specs.declared.Property as shown
use Rattle.device.specs.Meaning.{TextIn, text_in, Inside, chosen, held_in, LaneInside, declared_in, DeclaredInside, property_in, PropertyIn, shifted}
use Rattle.device.proofs.Theorems.{nth, lane-holds}
use Rattle.answer.specs.declared.Refused.TheVariants.{NoSuchNumber, NoProperty}
use Rattle.questions.specs.Meaning.{says_id, says_relative, says_property, says_held}
use Rattle.questions.specs.Parts.{Shown}
use Rattle.questions.proofs.Asking.{there, not_there}
use Rattle.rules.proofs.Ranks.{at_some, at_none}
use Rattle.questions.proofs.Rooms.{inside_at, in-room, moved_on}

-- ---- a device's ID, root and parent

pub id-shown : (m room : List ℕ) (start : ℕ) (p q : Place) → start + room_size ≤ length m → room ≡ span m start room_size → TextIn room (device_of room).id p → q ≡ shifted start p → Shown (says_id m (Ok q)) (gives (an_id (device_of (span m start room_size)).id)) (Within (length m) q)
unfolding says_id
id-shown m room start p q h g t e =
    let s : TextIn m (bytes_at (span m start room_size) p) q = moved_on m start h p (in-room m room start h g p t.within) q e in
    let k : bytes_at (span m start room_size) p ≡ (device_of (span m start room_size)).id = subst (λ (r : List ℕ). bytes_at r p ≡ (device_of r).id) g t.says in
    record { says = ap (λ (b : List ℕ). gives (an_id b)) (s.says ∙ k); places = s.within }

pub no_text : (m room : List ℕ) (x : Option Place) → x ≡ None → Shown (says_relative m (Ok None)) (gives (a_text (text_in room x))) Unit
unfolding says_relative text_in
no_text m room x e = record { says = ap (λ (y : Option Place). gives (a_text (text_in room y))) (sym e); places = tt }

pub a-text : (m : List ℕ) (start : ℕ) (x : Option Place) (p q : Place) → start + room_size ≤ length m → Inside room_size x → x ≡ Some p → q ≡ shifted start p → Shown (says_relative m (Ok (Some q))) (gives (a_text (text_in (span m start room_size) x))) (Within (length m) q)
unfolding says_relative text_in
a-text m start x p q h i e k =
    let s : TextIn m (bytes_at (span m start room_size) p) q = moved_on m start h p (inside_at room_size x p i e) q k in
    record { says = ap (λ (b : List ℕ). gives (a_text (Some b))) s.says ∙ ap (λ (y : Option Place). gives (a_text (text_in (span m start room_size) y))) (sym e); places = s.within }

pub text_says : (room room' : List ℕ) (x : Option Place) (v : Option (List ℕ)) (a : Answer Value) → room ≡ room' → text_in room x ≡ v → a ≡ gives (a_text (text_in room' x)) → a ≡ gives (a_text v)
text_says room room' x v a g e h = h ∙ (ap (λ (r : List ℕ). gives (a_text (text_in r x))) (sym g) ∙ ap (λ (o : Option (List ℕ)). gives (a_text o)) e)

-- ---- the properties that a room holds

abbrev properties_in : List ℕ → List table.Property
properties_in room = properties_of (device_of room).description

module _ (m room : List ℕ) (start n : ℕ) (h : start + room_size ≤ length m) (g : room ≡ span m start room_size) (few : n ≡ length (properties_in room)) where
  count_is : n ≡ length (properties_in (span m start room_size))
  count_is = few ∙ ap (λ (r : List ℕ). length (properties_in r)) g

  pub no-property : (i : ℕ) → n ≤ i → Shown (says_property m (Err NoSuchNumber)) (and_then (at i (properties_in (span m start room_size))) (λ p. gives (a_property p.declared))) Unit
  unfolding says_property
  no-property i k = record { says = not_there (at i (properties_in (span m start room_size))) (only 3) (λ p. gives (a_property p.declared)) (at_none i (properties_in (span m start room_size)) (omega (arith, count_is))); places = tt }

  pub a-property : (i : ℕ) (p : shown.Property) (node own format : Place) → i < n → PropertyIn room (record_of room (record_at i)) p → node ≡ shifted start p.declared.node → own ≡ shifted start p.declared.id → format ≡ shifted start p.declared.format
      → Shown (says_property m (Ok (record { node = node; id = own; datatype = p.declared.datatype; settable = p.declared.settable; retained = p.declared.retained; format = format }))) (and_then (at i (properties_in (span m start room_size))) (λ p. gives (a_property p.declared))) (DeclaredInside (length m) (record { node = node; id = own; datatype = p.declared.datatype; settable = p.declared.settable; retained = p.declared.retained; format = format }))
  unfolding says_property property_in declared_in
  a-property i p node own format k s e f d =
      let r : List ℕ = span m start room_size in
      let t : PropertyIn r (record_of r (record_at i)) p = subst (λ (r' : List ℕ). PropertyIn r' (record_of r' (record_at i)) p) g s in
      let a : TextIn m (bytes_at r p.declared.node) node = moved_on m start h p.declared.node (in-room m room start h g p.declared.node s.within.declared.node) node e in
      let b : TextIn m (bytes_at r p.declared.id) own = moved_on m start h p.declared.id (in-room m room start h g p.declared.id s.within.declared.id) own f in
      let c : TextIn m (bytes_at r p.declared.format) format = moved_on m start h p.declared.format (in-room m room start h g p.declared.format s.within.declared.format) format d in
      let z : table.Property = record_of r (record_at i) in
      let here : at i (properties_in r) ≡ gives z = at_some i (properties_in r) z (omega (arith, count_is)) ∙ ap gives (nth r i z (omega (arith, count_is))) in
      let one : (node' own' format' : List ℕ) → declaration.Property = λ node' own' format'. record { node = node'; id = own'; datatype = p.declared.datatype; format = format'; settable = p.declared.settable; retained = p.declared.retained } in
      let same : one (bytes_at m node) (bytes_at m own) (bytes_at m format) ≡ z.declared =
      ap (λ (x : List ℕ). one x (bytes_at m own) (bytes_at m format)) a.says
      ∙ (ap (λ (x : List ℕ). one (bytes_at r p.declared.node) x (bytes_at m format)) b.says
      ∙ (ap (λ (x : List ℕ). one (bytes_at r p.declared.node) (bytes_at r p.declared.id) x) c.says
      ∙ ap (λ (x : table.Property). x.declared) t.says)) in
      record {
        says = there (at i (properties_in r)) z (λ x. gives (a_property x.declared)) (gives (a_property (one (bytes_at m node) (bytes_at m own) (bytes_at m format)))) here (ap (λ (x : declaration.Property). gives (a_property x)) same);
        places = record { node = a.within; id = b.within; format = c.within };
      }

  -- a lane of the property that stands at the first place of its name
  module _ (node own : List ℕ) (kind : LaneKind) (i : ℕ) (first : i ≡ first_at (is_named node own) (properties_in room)) where
    first_is : i ≡ first_at (is_named node own) (properties_in (span m start room_size))
    first_is = first ∙ ap (λ (r : List ℕ). first_at (is_named node own) (properties_in r)) g

    pub no-lane : n ≤ i → Shown (says_held m (Err NoProperty)) (and_then (find_property node own (properties_in (span m start room_size))) (λ q. gives (a_lane (lane_of kind q)))) Unit
    unfolding says_held
    no-lane k = record { says = not_there (find_property node own (properties_in (span m start room_size))) (only 16) (λ q. gives (a_lane (lane_of kind q))) (property-none node own (properties_in (span m start room_size)) (omega (arith, first_is, count_is, first-within (is_named node own) (properties_in (span m start room_size))))); places = tt }

    module _ (p : shown.Property) (lane : Option Lane) (k : i < n) (s : PropertyIn room (record_of room (record_at i)) p) (c : lane ≡ chosen kind p) where
      pub payload-place : (l : Lane) → lane ≡ Some l → Within room_size l.payload
      payload-place l e = in-room m room start h g l.payload (subst (LaneInside (length room)) (sym c ∙ e) (s.within.lanes kind))

      lane-says : (a : Answer Value) → a ≡ gives (a_lane (held_in (span m start room_size) lane)) → a ≡ and_then (find_property node own (properties_in (span m start room_size))) (λ q. gives (a_lane (lane_of kind q)))
      lane-says a e =
          let r : List ℕ = span m start room_size in
          let z : table.Property = record_of r (record_at i) in
          let t : PropertyIn r z p = subst (λ (r' : List ℕ). PropertyIn r' (record_of r' (record_at i)) p) g s in
          let found : find_property node own (properties_in r) ≡ gives z =
          property_rank node own (properties_in r) z (omega (arith, first_is, count_is))
          ∙ (ap (λ (j : ℕ). gives (get_or (properties_in r) j z)) (sym first_is) ∙ ap gives (nth r i z (omega (arith, count_is)))) in
          let holds : held_in r lane ≡ lane_of kind z = ap (held_in r) c ∙ (lane-holds r kind p ∙ ap (lane_of kind) t.says) in
          there (find_property node own (properties_in r)) z (λ q. gives (a_lane (lane_of kind q))) a found (e ∙ ap (λ (o : Option table.Held). gives (a_lane o)) holds)

      pub empty-lane : lane ≡ None → Shown (says_held m (Ok None)) (and_then (find_property node own (properties_in (span m start room_size))) (λ q. gives (a_lane (lane_of kind q)))) Unit
      unfolding says_held held_in
      empty-lane e = record { says = lane-says (gives (a_lane None)) (ap (λ (v : Option Lane). gives (a_lane (held_in (span m start room_size) v))) (sym e)); places = tt }

      pub a-lane : (l : Lane) (q : Place) → lane ≡ Some l → q ≡ shifted start l.payload
          → Shown (says_held m (Ok (Some (record { time = l.time; payload = q })))) (and_then (find_property node own (properties_in (span m start room_size))) (λ q. gives (a_lane (lane_of kind q)))) (Within (length m) q)
      unfolding says_held held_in
      a-lane l q e f =
          let b : TextIn m (bytes_at (span m start room_size) l.payload) q = moved_on m start h l.payload (payload-place l e) q f in
          record {
            says = lane-says (gives (a_lane (Some (record { time = l.time; payload = bytes_at m q }))))
                (ap (λ (x : List ℕ). gives (a_lane (Some (record { time = l.time; payload = x })))) b.says ∙ ap (λ (v : Option Lane). gives (a_lane (held_in (span m start room_size) v))) (sym e));
            places = b.within;
          }
