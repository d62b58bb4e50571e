-- A delivery: the link's step, and then what its end does with the packet.
use Rattle.std.proofs.Common.{Result, Ok, Err, OnOk, ◌≡◌, subst, ℕ, Bool, true, false, not, List, [], ◌∷◌, ◌++◌, Option, Some, None, IfSome, is_some, is_none, option_map, refl, sym, ◌∙◌, ap}
use Rattle.std.proofs.lemmas.List.{append-nil}
use Rattle.link_spec.specs.declared.Direction.{Direction}
use Rattle.link_spec.specs.declared.Direction.TheVariants.{Down, Up}
use Rattle.link_spec.specs.Link.{Sent, is_down}
use Rattle.link_spec.specs.Held.{Held, held_allowed, held_carried, held_delivered, held_after}
use Rattle.unit_spec.specs.Onu.{Onu}
use Rattle.manager_spec.specs.Manager.{Manager}
use Rattle.world_spec.specs.Happenings.{Happening, PacketCame}
use Rattle.world_spec.specs.Trace.{line_text}
use Rattle.world_spec.specs.declared.Effect.TheVariants as effect
use Rattle.world_spec.specs.Ends.{Ends, Step, not_enabled, preceded, unit_got, manager_got, arrives, arrives_at}
use Rattle.slot_spec.specs.Slots.{SlotPair}
use Rattle.slot_disk.specs.Memory.{MemState}
use Rattle.onu_agent.specs.State.{State as Agent}
use Rattle.world_spec.specs.Nodes.{delivery_of}
use Rattle.link_replay.specs.Seen.{Seen, EndsStand, UnitStands, Follows, Scene, Shown, shown, followed}
use Rattle.link_replay.proofs.Following.{scene, follows_from, follows_shown, not_enabled_there}

-- what is held of the link has nothing to do with the ends
pub with_held : (v : Seen) (h : Held) (e : Ends) → EndsStand v e → EndsStand (record v { held = h }) e
with_held v h e s = record {
  event_is = s.event_is;
  lives_is = s.lives_is;
  size_is = s.size_is;
  manager_is = s.manager_is;
  unit = s.unit;
}

-- an end is on in the world where it is on in the machine
pub unit_on : (room size : ℕ) (a : Option (Agent MemState)) (d : Option MemState) (u : Option Onu) (s : SlotPair)
    → UnitStands room size a d u s → is_some a ≡ is_some u
unit_on room size (Some a) d (Some u) s stands = refl
unit_on room size (Some a) d None s stands = absurd stands
unit_on room size None (Some d) None s stands = refl
unit_on room size None None None s stands = absurd stands
unit_on room size None d (Some u) s stands = absurd stands

pub off_unit : (v : Seen) (e : Ends) → EndsStand v e → v.unit ≡ None → e.unit ≡ None
off_unit v e s off = none (sym (unit_on e.room v.length v.unit v.disk e.unit e.slots s.unit) ∙ ap is_some off)
  where
    none : is_some e.unit ≡ false → e.unit ≡ None
    none is = by e.unit is
      where
        by : (o : Option Onu) → is_some o ≡ false → o ≡ None
        by None e = refl
        by (Some u) e = absurd (cc)

on_there : {A B : Type 0} (a : Option A) (b : Option B) → is_some a ≡ is_some b → is_some a ≡ true → is_none b ≡ false
on_there a None same on = absurd (cc)
on_there a (Some x) same on = refl

came_first : (number : ℕ) (s : Sent) (t : Step) (v : Scene) (before : List ℕ) → followed t (record v { held = held_delivered number s v.held }) before ≡ followed (preceded (PacketCame number s ∷ []) t) v before
came_first number s t v before = refl

unit_first : (first : List Happening) (bytes : List ℕ) (o : Option Onu) (e : Ends) → is_none o ≡ false → preceded first (unit_got [] bytes o e) ≡ unit_got first bytes o e
unit_first first bytes None e on = absurd (cc)
unit_first first bytes (Some u) e on = refl

manager_first : (first : List Happening) (bytes : List ℕ) (o : Option Manager) (e : Ends) → is_none o ≡ false → preceded first (manager_got [] bytes o e) ≡ manager_got first bytes o e
manager_first first bytes None e on = absurd (cc)
manager_first first bytes (Some m) e on = refl

pub carried_by : (number : ℕ) (o : Option Sent) (s : Sent) (h : Held) → held_allowed number h ≡ o → o ≡ Some s → held_after number h ≡ held_delivered number s h
unfolding held_after
carried_by number o s h is there = ap (λ p. held_carried number p h) (is ∙ there)

-- what a packet that comes down makes the unit do, once the link has delivered it
came_down_there : (number : ℕ) (o : Option Sent) (v w new : Scene) (h : Held) (bytes before after : List ℕ) → v ≡ w → held_allowed number v.held ≡ o → is_some o ≡ true → IfSome o (λ s. true ≡ is_down s.direction) → is_none v.ends.unit ≡ false → h ≡ held_after number v.held → Some bytes ≡ option_map (λ s. s.bytes) o → shown new after ≡ followed (unit_got [] bytes v.ends.unit v.ends) (record v { held = h }) before → shown new after ≡ followed (delivery_of (held_allowed number w.held) number w.ends) w before
unfolding arrives
came_down_there number None v w new h bytes before after same is there direction on h_is packet step = absurd (cc)
came_down_there number (Some s) v w new h bytes before after same is there direction on h_is packet step =
    let bytes_is : bytes ≡ s.bytes = cc in
    let held = h_is ∙ carried_by number (Some s) s v.held is refl in
    step
    ∙ ap (λ b. followed (unit_got [] b v.ends.unit v.ends) (record v { held = h }) before) bytes_is
    ∙ ap (λ k. followed (unit_got [] s.bytes v.ends.unit v.ends) (record v { held = k }) before) held
    ∙ came_first number s (unit_got [] s.bytes v.ends.unit v.ends) v before
    ∙ ap (λ t. followed t v before) (unit_first (PacketCame number s ∷ []) s.bytes v.ends.unit v.ends on)
    ∙ goes s.direction direction
    ∙ ap (λ p. followed (delivery_of p number v.ends) v before) (sym is)
    ∙ ap (λ x. followed (delivery_of (held_allowed number x.held) number x.ends) x before) same
  where
    goes : (d : Direction) → true ≡ is_down d → followed (arrives_at Down (PacketCame number s ∷ []) s.bytes v.ends) v before ≡ followed (arrives_at d (PacketCame number s ∷ []) s.bytes v.ends) v before
    goes Down e = refl
    goes Up e = absurd (cc)

-- what a packet that comes up makes the manager do
came_up_there : (number : ℕ) (o : Option Sent) (v w new : Scene) (h : Held) (bytes before after : List ℕ) → v ≡ w → held_allowed number v.held ≡ o → is_some o ≡ true → IfSome o (λ s. false ≡ is_down s.direction) → is_none v.ends.manager ≡ false → h ≡ held_after number v.held → Some bytes ≡ option_map (λ s. s.bytes) o → shown new after ≡ followed (manager_got [] bytes v.ends.manager v.ends) (record v { held = h }) before → shown new after ≡ followed (delivery_of (held_allowed number w.held) number w.ends) w before
unfolding arrives
came_up_there number None v w new h bytes before after same is there direction on h_is packet step = absurd (cc)
came_up_there number (Some s) v w new h bytes before after same is there direction on h_is packet step =
    let bytes_is : bytes ≡ s.bytes = cc in
    let held = h_is ∙ carried_by number (Some s) s v.held is refl in
    step
    ∙ ap (λ b. followed (manager_got [] b v.ends.manager v.ends) (record v { held = h }) before) bytes_is
    ∙ ap (λ k. followed (manager_got [] s.bytes v.ends.manager v.ends) (record v { held = k }) before) held
    ∙ came_first number s (manager_got [] s.bytes v.ends.manager v.ends) v before
    ∙ ap (λ t. followed t v before) (manager_first (PacketCame number s ∷ []) s.bytes v.ends.manager v.ends on)
    ∙ goes s.direction direction
    ∙ ap (λ p. followed (delivery_of p number v.ends) v before) (sym is)
    ∙ ap (λ x. followed (delivery_of (held_allowed number x.held) number x.ends) x before) same
  where
    goes : (d : Direction) → false ≡ is_down d → followed (arrives_at Up (PacketCame number s ∷ []) s.bytes v.ends) v before ≡ followed (arrives_at d (PacketCame number s ∷ []) s.bytes v.ends) v before
    goes Up e = refl
    goes Down e = absurd (cc)

-- ---- the same of a world

-- a delivery to an end that is off isn't enabled
off_down : (number : ℕ) (o : Option Sent) (e : Ends) → IfSome o (λ s. true ≡ is_down s.direction) → e.unit ≡ None
    → delivery_of o number e ≡ not_enabled e
unfolding arrives
off_down number None e direction off = refl
off_down number (Some s) e direction off = at s.direction direction
  where
    at : (d : Direction) → true ≡ is_down d → arrives_at d (PacketCame number s ∷ []) s.bytes e ≡ not_enabled e
    at Down is = ap (λ o. unit_got (PacketCame number s ∷ []) s.bytes o e) off
    at Up is = absurd (cc)

off_up : (number : ℕ) (o : Option Sent) (e : Ends) → IfSome o (λ s. false ≡ is_down s.direction) → e.manager ≡ None
    → delivery_of o number e ≡ not_enabled e
unfolding arrives
off_up number None e direction off = refl
off_up number (Some s) e direction off = at s.direction direction
  where
    at : (d : Direction) → false ≡ is_down d → arrives_at d (PacketCame number s ∷ []) s.bytes e ≡ not_enabled e
    at Up is = ap (λ o. manager_got (PacketCame number s ∷ []) s.bytes o e) off
    at Down is = absurd (cc)

pub none_there : {A : Type 0} (o : Option A) → is_some o ≡ false → o ≡ None
none_there None e = refl
none_there (Some a) e = absurd (cc)

-- a packet that may not come
pub not_allowed : (number : ℕ) (v w : Seen) (before after : List ℕ) → v ≡ w → is_some (held_allowed number v.held) ≡ false
    → after ≡ before ++ line_text v.event effect.NotEnabled → (e : Ends) → EndsStand w e
    → Follows (delivery_of (held_allowed number w.held) number e) e w v before after
not_allowed number v w before after same none is e s =
    let at : EndsStand v e = subst (λ (x : Seen). EndsStand x e) (sym same) s in
    subst (λ (x : Seen). Follows (delivery_of (held_allowed number x.held) number e) e x v before after) same
    (subst (λ (o : Option Sent). Follows (delivery_of o number e) e v v before after) (sym (none_there (held_allowed number v.held) none))
    (not_enabled_there e v before after at is))

pub unit_is_off : (number : ℕ) (v w : Seen) (before after : List ℕ) → v ≡ w → IfSome (held_allowed number v.held) (λ s. true ≡ is_down s.direction)
    → v.unit ≡ None → after ≡ before ++ line_text w.event effect.NotEnabled → (e : Ends) → EndsStand w e
    → Follows (delivery_of (held_allowed number w.held) number e) e w w before after
unit_is_off number v w before after same direction off is e s =
    subst (λ (t : Step). Follows t e w w before after)
    (sym (off_down number (held_allowed number w.held) e (subst (λ (x : Seen). IfSome (held_allowed number x.held) (λ s. true ≡ is_down s.direction)) same direction)
    (off_unit w e s (ap (λ (x : Seen). x.unit) (sym same) ∙ off))))
    (not_enabled_there e w before after s is)

pub manager_is_off : (number : ℕ) (v w : Seen) (before after : List ℕ) → v ≡ w → IfSome (held_allowed number v.held) (λ s. false ≡ is_down s.direction)
    → v.manager ≡ None → after ≡ before ++ line_text w.event effect.NotEnabled → (e : Ends) → EndsStand w e
    → Follows (delivery_of (held_allowed number w.held) number e) e w w before after
manager_is_off number v w before after same direction off is e s =
    subst (λ (t : Step). Follows t e w w before after)
    (sym (off_up number (held_allowed number w.held) e (subst (λ (x : Seen). IfSome (held_allowed number x.held) (λ s. false ≡ is_down s.direction)) same direction)
    (sym s.manager_is ∙ ap (λ (x : Seen). x.manager) (sym same) ∙ off)))
    (not_enabled_there e w before after s is)

-- what a packet that comes down makes the unit do, once the link has delivered it
pub came_down : (number : ℕ) (o : Option Sent) (v w new : Seen) (h : Held) (bytes before after : List ℕ) → v ≡ w → held_allowed number v.held ≡ o → is_some o ≡ true → IfSome o (λ s. true ≡ is_down s.direction) → is_some v.unit ≡ true → h ≡ held_after number v.held → Some bytes ≡ option_map (λ s. s.bytes) o
    → ((e : Ends) → EndsStand (record v { held = h }) e → Follows (unit_got [] bytes e.unit e) e (record v { held = h }) new before after)
    → (e : Ends) → EndsStand w e → Follows (delivery_of (held_allowed number w.held) number e) e w new before after
came_down number o v w new h bytes before after same is there direction on h_is packet step e s =
    let at : EndsStand v e = subst (λ (x : Seen). EndsStand x e) (sym same) s in
    let t = unit_got [] bytes e.unit e in
    let f = step e (with_held v h e at) in
    subst (λ (x : Seen). Follows (delivery_of (held_allowed number x.held) number e) e x new before after) same
    (follows_from (delivery_of (held_allowed number v.held) number e) e t.ends v new before after f.ends
    (came_down_there number o (scene e v.held) (scene e v.held) (scene t.ends new.held) h bytes before after refl is there direction
    (on_there v.unit e.unit (unit_on e.room v.length v.unit v.disk e.unit e.slots at.unit) on) h_is packet
    (follows_shown t e (record v { held = h }) new before after f)))

pub came_up : (number : ℕ) (o : Option Sent) (v w new : Seen) (h : Held) (bytes before after : List ℕ) → v ≡ w → held_allowed number v.held ≡ o → is_some o ≡ true → IfSome o (λ s. false ≡ is_down s.direction) → is_some v.manager ≡ true → h ≡ held_after number v.held → Some bytes ≡ option_map (λ s. s.bytes) o
    → ((e : Ends) → EndsStand (record v { held = h }) e → Follows (manager_got [] bytes e.manager e) e (record v { held = h }) new before after)
    → (e : Ends) → EndsStand w e → Follows (delivery_of (held_allowed number w.held) number e) e w new before after
came_up number o v w new h bytes before after same is there direction on h_is packet step e s =
    let at : EndsStand v e = subst (λ (x : Seen). EndsStand x e) (sym same) s in
    let t = manager_got [] bytes e.manager e in
    let f = step e (with_held v h e at) in
    subst (λ (x : Seen). Follows (delivery_of (held_allowed number x.held) number e) e x new before after) same
    (follows_from (delivery_of (held_allowed number v.held) number e) e t.ends v new before after f.ends
    (came_up_there number o (scene e v.held) (scene e v.held) (scene t.ends new.held) h bytes before after refl is there direction
    (on_there v.manager e.manager (ap is_some at.manager_is) on) h_is packet
    (follows_shown t e (record v { held = h }) new before after f)))

-- an end that is on in the code is on in what is seen of it
pub on_here : {A : Type 0} (o : Option A) (b : Bool) → not b ≡ is_some o → b ≡ false → is_some o ≡ true
on_here None true e off = absurd (cc)
on_here None false e off = absurd (cc)
on_here (Some a) b e off = refl

pub on_mapped : {A B : Type 0} (f : A → B) (o : Option A) (b : Bool) → not b ≡ is_some o → b ≡ false → is_some (option_map f o) ≡ true
on_mapped f None true e off = absurd (cc)
on_mapped f None false e off = absurd (cc)
on_mapped f (Some a) b e off = refl

-- and one that is off is off
pub off_here : {A : Type 0} (o : Option A) (b : Bool) → not b ≡ is_some o → b ≡ true → o ≡ None
off_here None b e off = refl
off_here (Some a) true e off = absurd (cc)
off_here (Some a) false e off = absurd (cc)

pub off_mapped : {A B : Type 0} (f : A → B) (o : Option A) (b : Bool) → not b ≡ is_some o → b ≡ true → option_map f o ≡ None
off_mapped f None b e off = refl
off_mapped f (Some a) true e off = absurd (cc)
off_mapped f (Some a) false e off = absurd (cc)

-- what follows from a call that is done
pub on_ok : {A E : Type 0} (r : Result A E) (P Q : Type 0) → (P → Q) → OnOk r P → OnOk r Q
on_ok (Ok a) P Q then p = then p
on_ok (Err e) P Q then p = tt
