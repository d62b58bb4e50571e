-- What the manager sends: a command that is drawn, and one that is sent again.
use Rattle.std.proofs.Common.{◌≡◌, ◌≢◌, ℕ, ◌+◌, ◌<◌, ◌≤◌, ◌^◌, Bool, true, false, cond, List, []}
use Rattle.std.proofs.Common.{◌∷◌, ◌++◌, length, map, Option, Some, ◌⊎◌, inl, inr, ⊎_elim, refl, sym, ap, subst}
use Rattle.std.specs.List.{All, Contains}
use Rattle.std.proofs.lemmas.List.Elements.{All-head, All-tail, All-contains_itself}
use Rattle.std.proofs.Common.{◌∙◌, arith, ◌==◌, nat_lt}
use Rattle.std.proofs.lemmas.Option.{same_Some}
use Rattle.std.proofs.lemmas.Bool.{eqb-false, false≢true}
use Rattle.std.proofs.lemmas.Bool.Decides.{nat_tests}
use Rattle.std.proofs.lemmas.Nat.{from_be_bytes-to_be_bytes_2}
use Rattle.omci_types.specs.declared.Priority.{Priority}
use Rattle.omci_types.specs.declared.Priority.TheVariants.{Low, High}
use Rattle.tci_spec.specs.Tci.{priority_of, tci_of, packet_tci}
use Rattle.frame_spec.specs.Baseline.{checked_bytes, spelling}
use Rattle.omci_types.specs.declared.EntityId.{EntityId}
use Rattle.message_spec.specs.declared.Message.TheVariants.{Asked}
use Rattle.message_spec.specs.declared.Request.{Request}
use Rattle.message_spec.specs.declared.Request.TheVariants as request
use Rattle.message_spec.specs.Reading.{plain}
use Rattle.upload_spec.specs.Pieces.{Copy}
use Rattle.link_spec.specs.Link.{Sent, Link, lane_of, sent_on}
use Rattle.lane_spec.specs.Command.{Command, command_frame, section_packet, with_sections, command_packets}
use Rattle.lane_spec.specs.Lane.{Waiting}
use Rattle.manager_spec.specs.Manager.{Manager}
use Rattle.unit_spec.specs.Onu.{Onu}
use Rattle.world_spec.specs.Happenings.{link_read}
use Rattle.world_spec.specs.Ends.{goes_down}
use Rattle.world_spec.specs.History.{Told, tell_all}
use Rattle.resync_laws.proofs.Sending.{packet_down}
use Rattle.step_laws.proofs.Coming.{coming_more}
use Rattle.step_laws.proofs.Reading.{among_or, none_among, packets_change}
use Rattle.step_laws.proofs.Parts.{out_in, last_in, IsNewest, IsBelow, IsLeft, IsPut, IsCalm}
use Rattle.step_laws.proofs.Parts.{IsItsChange, IsSettled, InPhase, Steady, left_of, probed_resync}
use Rattle.step_laws.proofs.Parts.{resync_bars}

-- ---- the lane of a command's packets

spelled_tci : (tci : ℕ) (entity : EntityId) (r : Request) → tci < 2 ^ 16
    → packet_tci (spelling (plain (Asked tci entity r))) ≡ tci
unfolding spelling checked_bytes plain
spelled_tci tci entity r fits = from_be_bytes-to_be_bytes_2 tci fits

last_tci : (tci : ℕ) (c : Command) → tci < 2 ^ 16
    → packet_tci (spelling (command_frame tci c)) ≡ tci
unfolding command_frame
last_tci tci c fits = spelled_tci tci c.entity c.request fits

section_tci : (tci : ℕ) (one : EntityId) (number : ℕ) (bytes : List ℕ) → tci < 2 ^ 16
    → packet_tci (section_packet tci one number bytes) ≡ tci
unfolding section_packet
section_tci tci one number bytes fits =
    spelled_tci tci one (request.Section number bytes false) fits

sections_tci : (tci : ℕ) (one : EntityId) (number : ℕ) (sections packets : List (List ℕ))
    (bytes : List ℕ) → tci < 2 ^ 16 → (Contains packets bytes → packet_tci bytes ≡ tci)
    → Contains (with_sections tci one number sections packets) bytes → packet_tci bytes ≡ tci
sections_tci tci one number [] packets bytes fits f h = f h
sections_tci tci one number (first ∷ rest) packets bytes fits f h =
    ⊎_elim
    (λ (e : bytes ≡ section_packet tci one number first).
    ap packet_tci e ∙ section_tci tci one number first fits)
    (λ k. sections_tci tci one (number + 1) rest packets bytes fits f k)
    (among_or (section_packet tci one number first)
    (with_sections tci one (number + 1) rest packets) bytes h)

pub packets_in : (lane : Priority) (tci : ℕ) (c : Command) (bytes : List ℕ)
    → priority_of tci ≡ lane → tci < 2 ^ 16 → Contains (command_packets tci c) bytes
    → lane_of bytes ≡ lane
packets_in lane tci c bytes e fits h =
    ap priority_of (sections_tci tci c.entity 0 c.earlier (spelling (command_frame tci c) ∷ []) bytes
    fits (λ k. ⊎_elim
    (λ (q : bytes ≡ spelling (command_frame tci c)). ap packet_tci q ∙ last_tci tci c fits)
    (λ n. none_among bytes n) (among_or (spelling (command_frame tci c)) [] bytes k)) h) ∙ e

pub next_in : (lane : Priority) (n : ℕ) → n ≤ 32767 → priority_of (tci_of lane n) ≡ lane
next_in Low n h =
    let test : nat_lt n 32768 ≡ true = grind (arith, nat_tests) in
    ap (λ b. cond b Low High) test
next_in High n h =
    let test : nat_lt (n + 32768) 32768 ≡ false = grind (arith, nat_tests) in
    ap (λ b. cond b Low High) test

pub next_fits : (lane : Priority) (n : ℕ) → n ≤ 32767 → tci_of lane n < 2 ^ 16
next_fits Low n h = omega (arith, h)
next_fits High n h = omega (arith, h)

pub number_fits : (b : Bool) (n : ℕ) → (n == 32767) ≡ b → n ≤ 32767 → cond b 1 (n + 1) ≤ 32767
number_fits true n e h = omega arith
number_fits false n e h = let d : n ≢ 32767 = eqb-false n 32767 e in omega (arith, d, h)

length_more : {X : Type 0} (xs : List X) (x : X) → length (xs ++ x ∷ []) ≡ length xs + 1
length_more [] x = refl
length_more (y ∷ xs) x = let k = length_more xs x in omega (arith, k)

-- two lists that each grow by one
pub same_more : {X Y : Type 0} (xs : List X) (x : X) (ys : List Y) (y : Y) → length xs ≡ length ys
    → length (xs ++ x ∷ []) ≡ length (ys ++ y ∷ [])
same_more xs x ys y e = length_more xs x ∙ ap (λ n. n + 1) e ∙ sym (length_more ys y)

pub same_lane : (a b : Priority) → (a ≡ b) ⊎ (a ≢ b)
same_lane Low Low = inl refl
same_lane High High = inl refl
same_lane Low High = inr (λ e. cc)
same_lane High Low = inr (λ e. cc)

pub not_both : {A : Type 0} (b : Bool) → b ≡ true → b ≡ false → A
not_both b e f = absurd (false≢true (sym f ∙ e))

-- ---- its packets go out

module _ (l : Priority) (w : Waiting) (bytes : List ℕ) (link : Link) (lives : ℕ)
    (unit : Option Onu) (m : Manager) (t : Told) (h : Steady link lives unit m t)
    (waits : out_in l m ≡ Some w) (among : Contains (command_packets w.tci w.command) bytes) where
  abbrev packet : Sent
  packet = packet_down bytes

  abbrev again : Link
  again = sent_on packet link

  abbrev again_told : Told
  again_told = record t { names = t.names ++ last_in l t ∷ [] }

  mine : lane_of bytes ≡ l
  mine = let k = (h.lanes l).out w waits in packets_in l w.tci w.command bytes k.lane_is k.fits among

  one_lane : (a b : Priority) (v x : Waiting) → out_in a m ≡ Some v → out_in b m ≡ Some x
      → last_in a t ≡ last_in b t → a ≡ b
  one_lane Low Low v x e f n = refl
  one_lane High High v x e f n = refl
  one_lane Low High v x e f n = absurd (h.apart v x e f n)
  one_lane High Low v x e f n = absurd (h.apart x v f e (sym n))

  waits_same : (lane : Priority) (v : Waiting) → out_in lane m ≡ Some v
      → last_in l t ≡ last_in lane t → w ≡ v
  waits_same lane v e n =
      let same = one_lane l lane w v waits e n in
      same_Some w v (sym (subst (λ k. out_in k m ≡ Some w) same waits) ∙ e)

  again_newest : (lane : Priority) → IsNewest lane (last_in lane t) (out_in lane m) packet
      (last_in l t)
  again_newest lane = (
    (λ e. subst (λ k. last_in l t ≤ last_in k t) (sym mine ∙ e) (omega arith)),
    (λ v e n. subst (λ (x : Waiting). Contains (command_packets x.tci x.command) bytes)
        (waits_same lane v e n) among),
  )

  again_put : (P : List ℕ → Type 0) (upload : ℕ) → IsPut P upload link lives m t
      → IsPut P upload again lives m again_told
  again_put P upload k = record {
    early = k.early;
    packets = coming_more (IsLeft P upload lives t.history) link t.names packet (last_in l t) h.same
        (λ d n. inl (k.out l w waits n bytes among)) k.packets;
    out = k.out;
  }

  again_phase : (copy : Copy) (upload : ℕ) → InPhase link lives unit m t copy upload
      → InPhase again lives unit m again_told copy upload
  again_phase copy upload k = record {
    synced = k.synced;
    put = again_put _ upload k.put;
    one = k.one;
    made = k.made;
    settled = coming_more (IsSettled lives m t) link t.names packet (last_in l t) h.same
        (λ d c. inl (subst (λ k. IsItsChange (out_in k m) (last_in k t) (last_in l t)) (sym mine)
        (record {
          waiting = w;
          waits = waits;
          changing = packets_change w.tci w.command bytes among c;
          named = refl;
        })))
        k.settled;
    idle = k.idle;
    ahead = k.ahead;
  }

  again_steady : Steady again lives unit m again_told
  again_steady = record {
    same = same_more link.packets packet t.names (last_in l t) h.same;
    below = coming_more (IsBelow t.drawn) link t.names packet
        (last_in l t) h.same (λ d. ((h.lanes l).out w waits).early) h.below;
    lanes = λ lane. let k = h.lanes lane in record {
      priority = k.priority;
      number = k.number;
      out = k.out;
      newest = coming_more (IsNewest lane (last_in lane t) (out_in lane m)) link t.names packet
          (last_in l t) h.same (λ d. again_newest lane) k.newest;
    };
    apart = h.apart;
    known = h.known;
    job = λ s e. let k = h.job s e in record {
      quiet = k.quiet;
      calm = λ lane p. coming_more (IsCalm lane) link t.names packet
          (last_in l t) h.same (λ d e c. not_both _ (packets_change w.tci w.command bytes among c)
          (k.quiet l w (resync_bars l s (probed_resync lane s p)) waits)) (k.calm lane p);
      put = λ a. again_put (left_of s) t.asking (k.put a);
      current = k.current;
    };
    phase = λ e. let k = h.phase e in record {
      copy = k.copy;
      upload = k.upload;
      has = k.has;
      phase = again_phase k.copy k.upload k.phase;
    };
  }

-- all of them, one after the other
pub again_all : (l : Priority) (w : Waiting) (ps : List (List ℕ)) (link : Link) (lives : ℕ)
    (unit : Option Onu) (m : Manager) (t : Told) → Steady link lives unit m t → out_in l m ≡ Some w
    → All (Contains (command_packets w.tci w.command)) ps
    → Steady (link_read (map (goes_down l) ps) link) lives unit m
    (tell_all (map (goes_down l) ps) t)
again_all l w [] link lives unit m t h waits all = h
again_all Low w (bytes ∷ rest) link lives unit m t h waits all =
    let P = Contains (command_packets w.tci w.command) in
    again_all Low w rest (sent_on (packet_down bytes) link) lives unit m
    (record t { names = t.names ++ t.low ∷ [] })
    (again_steady Low w bytes link lives unit m t h waits (All-head P bytes rest all)) waits
    (All-tail P bytes rest all)
again_all High w (bytes ∷ rest) link lives unit m t h waits all =
    let P = Contains (command_packets w.tci w.command) in
    again_all High w rest (sent_on (packet_down bytes) link) lives unit m
    (record t { names = t.names ++ t.high ∷ [] })
    (again_steady High w bytes link lives unit m t h waits (All-head P bytes rest all)) waits
    (All-tail P bytes rest all)

-- the packets that the command sends each time
pub sends_all : (l : Priority) (w : Waiting) (link : Link) (lives : ℕ) (unit : Option Onu)
    (m : Manager) (t : Told) → Steady link lives unit m t → out_in l m ≡ Some w
    → Steady (link_read (map (goes_down l) (command_packets w.tci w.command)) link) lives unit m
    (tell_all (map (goes_down l) (command_packets w.tci w.command)) t)
sends_all l w link lives unit m t h waits =
    again_all l w (command_packets w.tci w.command) link lives unit m t h waits
    (All-contains_itself (command_packets w.tci w.command))
