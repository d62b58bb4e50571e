-- What a packet more on the link keeps: of a command that is drawn, and of one that is sent again.
use Rattle.std.proofs.Common.{◌≡◌, ◌≢◌, ℕ, ◌+◌, ◌<◌, ◌≤◌, Bool, true, false, cond, List, [], ◌∷◌, ◌++◌, map, Option, Some, None, inl, inr, refl, sym, ap, subst, ◌∙◌, arith, ◌==◌}
use Rattle.std.proofs.lemmas.Option.{same_Some}
use Rattle.std.proofs.lemmas.Bool.{eqb-false}
use Rattle.omci_types.specs.declared.EntityId.{EntityId}
use Rattle.omci_types.specs.declared.Priority.{Priority}
use Rattle.omci_types.specs.declared.Priority.TheVariants.{Low, High}
use Rattle.tci_spec.specs.Tci.{tci_of}
use Rattle.frame_spec.specs.Baseline.{spelling}
use Rattle.message_spec.specs.declared.Message.TheVariants.{Asked}
use Rattle.message_spec.specs.declared.Request.{Request}
use Rattle.message_spec.specs.declared.Request.TheVariants as request
use Rattle.message_spec.specs.Reading.{plain}
use Rattle.link_spec.specs.declared.Direction.TheVariants.{Down}
use Rattle.link_spec.specs.Link.{Sent, Link, lane_of, sent_on}
use Rattle.lane_spec.specs.Command.{Command, command_frame, section_packet, with_sections, command_packets}
use Rattle.lane_spec.specs.Lane.{Lane, Waiting, next_tci, with_command}
use Rattle.unit_spec.specs.Onu.{Onu}
use Rattle.world_spec.specs.Happenings.{link_read}
use Rattle.world_spec.specs.Ends.{goes_down}
use Rattle.world_spec.specs.History.{Told, drawn_in, tell_all}
use Rattle.resync_laws.proofs.Reading.{is_plain}
use Rattle.resync_laws.proofs.Invariants.{sent_more, sent_map, IsSent, IsApart, is_job, Held, goes_low, not_high}

-- a packet that goes down
abbrev pub packet_down : List ℕ → Sent
packet_down bytes = record { direction = Down; bytes = bytes }

-- ---- a command is drawn

-- what is told of it, where it asks for a snapshot or not
abbrev pub drawn_low : (asks : Bool) → Told → Told
drawn_low asks t =
    record t { drawn = t.drawn + 1; low = t.drawn; asking = cond asks t.drawn t.asking }

abbrev pub drawn_high : Told → Told
drawn_high t = record t { drawn = t.drawn + 1; high = t.drawn }

number_fits : (b : Bool) (n : ℕ) → (n == 32767) ≡ b → n ≤ 32767 → cond b 1 (n + 1) ≤ 32767
number_fits true n e fits = omega arith
number_fits false n e fits = let d : n ≢ 32767 = eqb-false n 32767 e in omega (arith, d, fits)

low_tci : (l : Lane) → l.priority ≡ Low → next_tci l ≡ l.next
low_tci l e = ap (λ p. tci_of p l.next) e

-- the low lane's next TCI is one of its own
pub low_fits : (l : Lane) → l.priority ≡ Low → l.next ≤ 32767 → next_tci l ≤ 32767
low_fits l e fits = let tci = low_tci l e in omega (arith, tci, fits)

pub held_low : (asks : Bool) (c : Command) (packets : List Sent) (unit : Option Onu)
    (low high : Lane) (t : Told) → Held packets unit low high t → low.outstanding ≡ None
    → Held packets unit (with_command c low) high (drawn_low asks t)
held_low asks c packets unit low high t h free = record {
  sent = sent_map (IsSent t.drawn) (IsSent (t.drawn + 1)) packets t.names
      (λ s name p d. let k = p d in let lt = k.0 in (omega (arith, lt), k.1)) h.sent;
  apart = λ w e. sent_map (IsSent t.drawn) (IsApart t.drawn) packets t.names
      (λ s name p d l. let lt = (p d).0 in λ same. absurd (omega (arith, lt, same))) h.sent;
  lanes = record {
    priority = h.lanes.priority;
    number = number_fits (low.next == 32767) low.next refl h.lanes.number;
    low_out = λ w e.
        let same = ap (λ (v : Waiting). v.tci) (same_Some _ w e) in
        let fits = low_fits low h.lanes.priority h.lanes.number in
        (omega (arith, same, fits), omega arith);
    high_out = λ w e.
        let k = h.lanes.high_out w e in
        let before = k.drawn_before in
        record {
          drawn_before = omega (arith, before);
          plainly = k.plainly;
          callers = k.callers;
          single = k.single;
          apart = λ v f same. absurd (omega (arith, before, same));
        };
  };
  carried = λ life command was. let lt = h.carried life command was in omega (arith, lt);
  whole = h.whole;
  right = h.right;
}

pub held_high : (c : Command) (packets : List Sent) (unit : Option Onu) (low high : Lane) (t : Told)
    → Held packets unit low high t → high.outstanding ≡ None → is_plain c.request ≡ true
    → is_job c.purpose ≡ false → c.earlier ≡ []
    → Held packets unit low (with_command c high) (drawn_high t)
held_high c packets unit low high t h free plainly callers single = record {
  sent = sent_map (IsSent t.drawn) (IsSent (t.drawn + 1)) packets t.names
      (λ s name p d. let k = p d in let lt = k.0 in (omega (arith, lt), k.1)) h.sent;
  apart = h.apart;
  lanes = record {
    priority = h.lanes.priority;
    number = h.lanes.number;
    low_out = λ w e. let k = h.lanes.low_out w e in (k.0, omega (arith, k.1));
    high_out = λ w e. record {
      drawn_before = omega arith;
      plainly = subst (λ (v : Waiting). is_plain v.command.request ≡ true) (same_Some _ w e) plainly;
      callers = subst (λ (v : Waiting). is_job v.command.purpose ≡ false) (same_Some _ w e) callers;
      single = subst (λ (v : Waiting). v.command.earlier ≡ []) (same_Some _ w e) single;
      apart = λ v f same. let before = (h.lanes.low_out v f).1 in absurd (omega (arith, before, same));
    };
  };
  carried = λ life command was. let lt = h.carried life command was in omega (arith, lt);
  whole = h.whole;
  right = h.right;
}

-- ---- a packet goes out

-- it goes out once
abbrev pub again_low : Told → Told
again_low t = record t { names = t.names ++ t.low ∷ [] }

abbrev pub again_high : Told → Told
again_high t = record t { names = t.names ++ t.high ∷ [] }

-- bytes that spell a request
pub record IsSpelled (bytes : List ℕ) : Type 0 where
  pub tci : ℕ
  pub entity : EntityId
  pub request : Request
  pub is : bytes ≡ spelling (plain (Asked tci entity request))

low_packet : (bytes : List ℕ) (packets : List Sent) (unit : Option Onu) (low high : Lane) (t : Told)
    → Held packets unit low high t → t.low < t.drawn → lane_of bytes ≡ Low → IsSpelled bytes
    → Held (packets ++ packet_down bytes ∷ []) unit low high (again_low t)
low_packet bytes packets unit low high t h before in_low made = record {
  sent = sent_more (IsSent t.drawn) packets t.names (packet_down bytes) t.low h.sent (λ d. (
    before,
    record {
      tci = made.tci;
      entity = made.entity;
      request = made.request;
      bytes = made.is;
      lane = inl in_low;
    },
  ));
  apart = λ x f. sent_more (IsApart t.low) packets t.names (packet_down bytes) t.low (h.apart x f)
      (λ d l. not_high bytes in_low l);
  lanes = record {
    priority = h.lanes.priority;
    number = h.lanes.number;
    low_out = h.lanes.low_out;
    high_out = h.lanes.high_out;
  };
  carried = h.carried;
  whole = h.whole;
  right = h.right;
}

high_packet : (bytes : List ℕ) (packets : List Sent) (unit : Option Onu) (low high : Lane)
    (t : Told) → Held packets unit low high t → t.high < t.drawn → (made : IsSpelled bytes)
    → is_plain made.request ≡ true → ((w : Waiting) → low.outstanding ≡ Some w → t.high ≢ t.low)
    → Held (packets ++ packet_down bytes ∷ []) unit low high (again_high t)
high_packet bytes packets unit low high t h before made plainly apart = record {
  sent = sent_more (IsSent t.drawn) packets t.names (packet_down bytes) t.high h.sent (λ d. (
    before,
    record {
      tci = made.tci;
      entity = made.entity;
      request = made.request;
      bytes = made.is;
      lane = inr plainly;
    },
  ));
  apart = λ x f. sent_more (IsApart t.low) packets t.names (packet_down bytes) t.high (h.apart x f)
      (λ d l. apart x f);
  lanes = record {
    priority = h.lanes.priority;
    number = h.lanes.number;
    low_out = h.lanes.low_out;
    high_out = h.lanes.high_out;
  };
  carried = h.carried;
  whole = h.whole;
  right = h.right;
}

-- ---- all packets of a command

-- packets of the low lane
abbrev pub AreLow : List (List ℕ) → Type 0
AreLow [] = Unit {0}
AreLow (bytes ∷ rest) = (lane_of bytes ≡ Low) × IsSpelled bytes × AreLow rest

section_low : (tci : ℕ) (one : EntityId) (number : ℕ) (bytes : List ℕ) → tci ≤ 32767
    → lane_of (section_packet tci one number bytes) ≡ Low
unfolding section_packet
section_low tci one number bytes fits = goes_low tci one (request.Section number bytes false) fits

section_spelled : (tci : ℕ) (one : EntityId) (number : ℕ) (bytes : List ℕ)
    → IsSpelled (section_packet tci one number bytes)
unfolding section_packet
section_spelled tci one number bytes =
    record { tci = tci; entity = one; request = request.Section number bytes false; is = refl }

sections_low : (tci : ℕ) (one : EntityId) (number : ℕ) (sections packets : List (List ℕ))
    → tci ≤ 32767 → AreLow packets → AreLow (with_sections tci one number sections packets)
sections_low tci one number [] packets fits h = h
sections_low tci one number (bytes ∷ rest) packets fits h = (
  section_low tci one number bytes fits,
  section_spelled tci one number bytes,
  sections_low tci one (number + 1) rest packets fits h,
)

command_low : (tci : ℕ) (c : Command) → tci ≤ 32767
    → lane_of (spelling (command_frame tci c)) ≡ Low
unfolding command_frame
command_low tci c fits = goes_low tci c.entity c.request fits

pub command_spelled : (tci : ℕ) (c : Command) → IsSpelled (spelling (command_frame tci c))
unfolding command_frame
command_spelled tci c = record { tci = tci; entity = c.entity; request = c.request; is = refl }

command_plain : (tci : ℕ) (c : Command) → is_plain c.request ≡ true
    → is_plain (command_spelled tci c).request ≡ true
unfolding command_spelled
command_plain tci c plainly = plainly

pub packets_low : (tci : ℕ) (c : Command) → tci ≤ 32767 → AreLow (command_packets tci c)
packets_low tci c fits =
    sections_low tci c.entity 0 c.earlier (spelling (command_frame tci c) ∷ []) fits
    (command_low tci c fits, command_spelled tci c, tt)

-- they go out over the low lane
pub low_packets : (ps : List (List ℕ)) (link : Link) (unit : Option Onu) (low high : Lane)
    (t : Told) → Held link.packets unit low high t → t.low < t.drawn → AreLow ps
    → Held (link_read (map (goes_down Low) ps) link).packets unit low high
    (tell_all (map (goes_down Low) ps) t)
low_packets [] link unit low high t h before made = h
low_packets (bytes ∷ rest) link unit low high t h before made =
    low_packets rest (sent_on (packet_down bytes) link) unit low high (again_low t)
    (low_packet bytes link.packets unit low high t h before made.0 made.1) before made.2

-- a command of one packet goes out over the high lane
pub high_packets : (tci : ℕ) (c : Command) (link : Link) (unit : Option Onu) (low high : Lane)
    (t : Told) → Held link.packets unit low high t → t.high < t.drawn → c.earlier ≡ []
    → is_plain c.request ≡ true → ((w : Waiting) → low.outstanding ≡ Some w → t.high ≢ t.low)
    → Held (link_read (map (goes_down High) (command_packets tci c)) link).packets unit low high
    (tell_all (map (goes_down High) (command_packets tci c)) t)
high_packets tci c link unit low high t h before single plainly apart =
    subst (λ e. Held (link_read (map (goes_down High) (with_sections tci c.entity 0 e
    (spelling (command_frame tci c) ∷ []))) link).packets unit low high
    (tell_all (map (goes_down High) (with_sections tci c.entity 0 e
    (spelling (command_frame tci c) ∷ []))) t)) (sym single)
    (high_packet (spelling (command_frame tci c)) link.packets unit low high t h before
    (command_spelled tci c) (command_plain tci c plainly) apart)

-- of what is told they change the names alone
pub sent_names : (lane : Priority) (ps : List (List ℕ)) (t : Told)
    → tell_all (map (goes_down lane) ps) t
    ≡ record t { names = (tell_all (map (goes_down lane) ps) t).names }
sent_names lane [] t = refl
sent_names lane (bytes ∷ rest) t =
    sent_names lane rest (record t { names = t.names ++ drawn_in lane t ∷ [] })

-- ---- the outstanding command, later

abbrev pub later : ℕ → ℕ → Waiting → Waiting
later ticks repeats w = record w { ticks = ticks; repeats = repeats }

pub low_later : (w v : Waiting) (packets : List Sent) (unit : Option Onu) (low high : Lane) (t : Told)
    → Held packets unit low high t → low.outstanding ≡ Some w → v.tci ≡ w.tci
    → Held packets unit (record low { outstanding = Some v }) high t
low_later w v packets unit low high t h e same = record {
  sent = h.sent;
  apart = λ x f. h.apart w e;
  lanes = record {
    priority = h.lanes.priority;
    number = h.lanes.number;
    low_out = λ x f.
        let k = h.lanes.low_out w e in
        let tci = ap (λ (y : Waiting). y.tci) (same_Some v x f) in
        (omega (arith, k.0, tci, same), k.1);
    high_out = λ x f.
        let k = h.lanes.high_out x f in
        record {
          drawn_before = k.drawn_before;
          plainly = k.plainly;
          callers = k.callers;
          single = k.single;
          apart = λ y g. k.apart w e;
        };
  };
  carried = h.carried;
  whole = h.whole;
  right = h.right;
}

pub high_later : (w v : Waiting) (packets : List Sent) (unit : Option Onu) (low high : Lane)
    (t : Told) → Held packets unit low high t → high.outstanding ≡ Some w
    → v.command ≡ w.command → Held packets unit low (record high { outstanding = Some v }) t
high_later w v packets unit low high t h e same = record {
  sent = h.sent;
  apart = h.apart;
  lanes = record {
    priority = h.lanes.priority;
    number = h.lanes.number;
    low_out = h.lanes.low_out;
    high_out = λ x f.
        let k = h.lanes.high_out w e in
        let command = sym same ∙ ap (λ (y : Waiting). y.command) (same_Some v x f) in
        record {
          drawn_before = k.drawn_before;
          plainly = subst (λ (c : Command). is_plain c.request ≡ true) command k.plainly;
          callers = subst (λ (c : Command). is_job c.purpose ≡ false) command k.callers;
          single = subst (λ (c : Command). c.earlier ≡ []) command k.single;
          apart = k.apart;
        };
  };
  carried = h.carried;
  whole = h.whole;
  right = h.right;
}

-- it goes out again
pub low_again : (w : Waiting) (link : Link) (unit : Option Onu) (low high : Lane) (t : Told)
    → Held link.packets unit low high t → low.outstanding ≡ Some w
    → Held (link_read (map (goes_down Low) (command_packets w.tci w.command)) link).packets unit low
    high (tell_all (map (goes_down Low) (command_packets w.tci w.command)) t)
low_again w link unit low high t h e =
    let k = h.lanes.low_out w e in
    low_packets (command_packets w.tci w.command) link unit low high t h k.1
    (packets_low w.tci w.command k.0)

pub high_again : (w : Waiting) (link : Link) (unit : Option Onu) (low high : Lane) (t : Told)
    → Held link.packets unit low high t → high.outstanding ≡ Some w
    → Held (link_read (map (goes_down High) (command_packets w.tci w.command)) link).packets unit low
    high (tell_all (map (goes_down High) (command_packets w.tci w.command)) t)
high_again w link unit low high t h e =
    let k = h.lanes.high_out w e in
    high_packets w.tci w.command link unit low high t h k.drawn_before k.single k.plainly k.apart

-- ---- it has ended

pub low_ended : (proved : Bool) (packets : List Sent) (unit : Option Onu) (low high : Lane) (t : Told)
    → Held packets unit low high t
    → Held packets unit (record low { proved = proved; outstanding = None }) high t
low_ended proved packets unit low high t h = record {
  sent = h.sent;
  apart = λ x f. absurd (cc);
  lanes = record {
    priority = h.lanes.priority;
    number = h.lanes.number;
    low_out = λ x f. absurd (cc);
    high_out = λ x f.
        let k = h.lanes.high_out x f in
        record {
          drawn_before = k.drawn_before;
          plainly = k.plainly;
          callers = k.callers;
          single = k.single;
          apart = λ y g. absurd (cc);
        };
  };
  carried = h.carried;
  whole = h.whole;
  right = h.right;
}

pub high_ended : (proved : Bool) (packets : List Sent) (unit : Option Onu) (low high : Lane)
    (t : Told) → Held packets unit low high t
    → Held packets unit low (record high { proved = proved; outstanding = None }) t
high_ended proved packets unit low high t h = record {
  sent = h.sent;
  apart = h.apart;
  lanes = record {
    priority = h.lanes.priority;
    number = h.lanes.number;
    low_out = h.lanes.low_out;
    high_out = λ x f. absurd (cc);
  };
  carried = h.carried;
  whole = h.whole;
  right = h.right;
}
