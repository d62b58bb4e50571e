-- What the manager did is a step of the ends that it stands for.
use Rattle.std.proofs.Common.{◌≡◌, ℕ, ◌+◌, List, [], ◌++◌, length, Option, Some, None, refl, sym, ◌∙◌, ap, subst, append_assoc, append-nil}
use Rattle.script_spec.specs.Script as spec
use Rattle.script_spec.specs.Script.{HasAction}
use Rattle.script_spec.specs.declared.Document.TheVariants as documents
use Rattle.manager_spec.specs.declared.Refusal.{Refusal}
use Rattle.manager_spec.specs.Manager.{Manager, Outcome, packets_of}
use Rattle.manager_spec.specs.Steps.{after_packet, after_tick}
use Rattle.olt_manager.specs.State.{State, sound}
use Rattle.world_spec.specs.declared.Effect.TheVariants as effect
use Rattle.world_spec.specs.Ends.{Step, manager_did, submission_by, submission_step}
use Rattle.world_spec.specs.Nodes.{acted}
use Rattle.world_spec.specs.Trace.{line_text}
use Rattle.turn_spec.specs.Arrivals.{Came, Quiet, Closed}
use Rattle.turn_spec.specs.OltTurns.{alone, ordered, arrived, packets_in}
use Rattle.trace_lines.specs.Reports.{reports_text}
use Rattle.manager_orders.specs.Asking.{asking}
use Rattle.olt_seat.specs.Seat.{Seat, seat_ends, packets_after, SendsFront, downs_text, Plays}
use Rattle.olt_seat.proofs.Told.{tells_did}

-- ---- packets

-- no packets were sent
pub nothing_added : (told : Option (List (List ℕ))) → told ≡ packets_after [] told
nothing_added None = refl
nothing_added (Some before) = ap (λ z. Some z) (sym (append-nil before))

pub sends_nothing_of : (packets : List (List ℕ)) (told : Option (List (List ℕ))) → SendsFront packets told told
sends_nothing_of packets told = record { front = []; rest = packets; parts = refl; added = nothing_added told }

joined : (ps qs : List (List ℕ)) (told : Option (List (List ℕ))) → packets_after qs (packets_after ps told) ≡ packets_after (ps ++ qs) told
joined ps qs None = refl
joined ps qs (Some before) = ap (λ z. Some z) (append_assoc before ps qs)

-- some, and then others
pub packets_then : (ps qs : List (List ℕ)) (a b c : Option (List (List ℕ))) → b ≡ packets_after ps a → c ≡ packets_after qs b → c ≡ packets_after (ps ++ qs) a
packets_then ps qs a b c first second =
    second ∙ ap (λ z. packets_after qs z) first ∙ joined ps qs a

-- all of some, and then a front of others
pub front_then : (ps qs : List (List ℕ)) (a b c : Option (List (List ℕ))) → b ≡ packets_after ps a → SendsFront qs b c → SendsFront (ps ++ qs) a c
front_then ps qs a b c first second = record {
  front = ps ++ second.front;
  rest = second.rest;
  parts = append_assoc ps second.front second.rest ∙ ap (λ z. ps ++ z) second.parts;
  added = packets_then ps second.front a b c first second.added;
}

-- a front of some is one of these and others
pub front_longer : (ps qs : List (List ℕ)) (a b : Option (List (List ℕ))) → SendsFront ps a b → SendsFront (ps ++ qs) a b
front_longer ps qs a b part = record {
  front = part.front;
  rest = part.rest ++ qs;
  parts = sym (append_assoc part.front part.rest qs) ∙ ap (λ z. z ++ qs) part.parts;
  added = part.added;
}

-- all is a front too
pub front_all : (ps : List (List ℕ)) (a b : Option (List (List ℕ))) → b ≡ packets_after ps a → SendsFront ps a b
front_all ps a b added = record { front = ps; rest = []; parts = append-nil ps; added = added }

-- ---- what the manager did

-- its reports were told and its packets sent
pub plays_did : (o : Outcome) (m' : State) (v w new : Seat) (ps : List (List ℕ)) (before after : List ℕ) (a b : Option (List (List ℕ)))
    → v ≡ w → m' ≡ sound o.manager → ps ≡ packets_of o.sendings
    → new ≡ record { manager = record m'.manager { reports = [] }; turn = v.turn; sent = v.sent + length ps; given = v.given }
    → after ≡ before ++ (reports_text v.turn m'.manager.copy m'.manager.table.rows m'.manager.reports ++ downs_text v.turn v.sent ps)
    → b ≡ packets_after ps a
    → Plays (manager_did o (seat_ends w)) w new before after a b
plays_did o m' v w new ps before after a b same m_is ps_is new_is after_is b_is =
    let told = tells_did w.turn o (seat_ends w) in
    let new' = new_is
    ∙ ap (λ (x : State). record { manager = record x.manager { reports = [] }; turn = v.turn; sent = v.sent + length ps; given = v.given }) m_is
    ∙ ap (λ qs. record { manager = record o.manager { reports = [] }; turn = v.turn; sent = v.sent + length qs; given = v.given }) ps_is
    ∙ ap (λ (x : Seat). record { manager = record o.manager { reports = [] }; turn = x.turn; sent = x.sent + length (packets_of o.sendings); given = x.given }) same in
    record {
      ends = ap (λ (x : Seat). seat_ends x) new';
      turn = ap (λ (x : Seat). x.turn) new';
      count = ap (λ (x : Seat). x.sent) new' ∙ sym (told.count_is w.sent);
      given = ap (λ (x : Seat). x.given) new';
      text = after_is
          ∙ ap (λ (x : State). before ++ (reports_text v.turn x.manager.copy x.manager.table.rows x.manager.reports ++ downs_text v.turn v.sent ps)) m_is
          ∙ ap (λ qs. before ++ (reports_text v.turn o.manager.copy o.manager.table.rows o.manager.reports ++ downs_text v.turn v.sent qs)) ps_is
          ∙ ap (λ (x : Seat). before ++ (reports_text x.turn o.manager.copy o.manager.table.rows o.manager.reports ++ downs_text x.turn x.sent (packets_of o.sendings))) same
          ∙ ap (λ t. before ++ t) (sym (told.text_is w.sent));
      packets = b_is ∙ ap (λ qs. packets_after qs a) (ps_is ∙ sym told.packets_is);
    }

-- some of its packets were sent
pub sends_did : (o : Outcome) (w : Seat) (ps : List (List ℕ)) (a b : Option (List (List ℕ))) → ps ≡ packets_of o.sendings
    → SendsFront ps a b → SendsFront (packets_in (manager_did o (seat_ends w)).happenings) a b
sends_did o w ps a b ps_is part =
    subst (λ qs. SendsFront qs a b) (ps_is ∙ sym (tells_did w.turn o (seat_ends w)).packets_is) part

-- ---- orders

-- an order asks for what a line of orders does
pub asking_acted : (order : spec.Action) (m : Manager) (turn : ℕ) → HasAction documents.Orders order
    → submission_step (asking order m) (alone turn m) ≡ ordered order (alone turn m)
unfolding acted asking
asking_acted (spec.Probe lane) m turn has = refl
asking_acted (spec.Reset lane) m turn has = refl
asking_acted (spec.Get lane entity mask) m turn has = refl
asking_acted (spec.Create lane entity values) m turn has = refl
asking_acted (spec.Set lane entity mask values) m turn has = refl
asking_acted (spec.Delete lane entity) m turn has = refl
asking_acted (spec.Activate lane slot) m turn has = refl
asking_acted (spec.Commit lane slot) m turn has = refl
asking_acted (spec.Reboot lane) m turn has = refl
asking_acted spec.Resync m turn has = refl
asking_acted spec.Audit m turn has = refl
asking_acted spec.Check m turn has = refl
asking_acted (spec.Image slot window check image) m turn has = refl
asking_acted order m turn has = absurd (cc)

-- an order that wasn't refused
pub taken_order : (order : spec.Action) (w : Seat) → HasAction documents.Orders order → (asking order w.manager).refusal ≡ None
    → manager_did (asking order w.manager).outcome (seat_ends w) ≡ ordered order (seat_ends w)
taken_order order w has none =
    ap (λ r. submission_by r (asking order w.manager).outcome (seat_ends w)) (sym none)
    ∙ asking_acted order w.manager w.turn has

-- one that was
pub refused_order : (order : spec.Action) (w : Seat) (r : Refusal) → HasAction documents.Orders order → (asking order w.manager).refusal ≡ Some r
    → submission_by (Some r) (asking order w.manager).outcome (seat_ends w) ≡ ordered order (seat_ends w)
refused_order order w r has some =
    ap (λ z. submission_by z (asking order w.manager).outcome (seat_ends w)) (sym some)
    ∙ asking_acted order w.manager w.turn has

pub plays_taken : (order : spec.Action) (m m' : State) (v w new : Seat) (ps : List (List ℕ)) (before after : List ℕ) (a b : Option (List (List ℕ)))
    → v ≡ w → v.manager ≡ m.manager → HasAction documents.Orders order
    → (asking order m.manager).refusal ≡ None
    → m' ≡ sound (asking order m.manager).outcome.manager → ps ≡ packets_of (asking order m.manager).outcome.sendings
    → new ≡ record { manager = record m'.manager { reports = [] }; turn = v.turn; sent = v.sent + length ps; given = v.given }
    → after ≡ before ++ (reports_text v.turn m'.manager.copy m'.manager.table.rows m'.manager.reports ++ downs_text v.turn v.sent ps)
    → b ≡ packets_after ps a
    → Plays (ordered order (seat_ends w)) w new before after a b
plays_taken order m m' v w new ps before after a b same on has none m_is ps_is new_is after_is b_is =
    let at : m.manager ≡ w.manager = sym on ∙ ap (λ (x : Seat). x.manager) same in
    subst (λ (st : Step). Plays st w new before after a b)
    (taken_order order w has (ap (λ (x : Manager). (asking order x).refusal) (sym at) ∙ none))
    (plays_did (asking order w.manager).outcome m' v w new ps before after a b same
    (m_is ∙ ap (λ (x : Manager). sound (asking order x).outcome.manager) at)
    (ps_is ∙ ap (λ (x : Manager). packets_of (asking order x).outcome.sendings) at)
    new_is after_is b_is)

pub sends_taken : (order : spec.Action) (m : State) (v w : Seat) (ps : List (List ℕ)) (a b : Option (List (List ℕ)))
    → v ≡ w → v.manager ≡ m.manager → HasAction documents.Orders order
    → (asking order m.manager).refusal ≡ None → ps ≡ packets_of (asking order m.manager).outcome.sendings
    → SendsFront ps a b → SendsFront (packets_in (ordered order (seat_ends w)).happenings) a b
sends_taken order m v w ps a b same on has none ps_is part =
    let at : m.manager ≡ w.manager = sym on ∙ ap (λ (x : Seat). x.manager) same in
    subst (λ (st : Step). SendsFront (packets_in st.happenings) a b)
    (taken_order order w has (ap (λ (x : Manager). (asking order x).refusal) (sym at) ∙ none))
    (sends_did (asking order w.manager).outcome w ps a b (ps_is ∙ ap (λ (x : Manager). packets_of (asking order x).outcome.sendings) at) part)

one_line : (text line : List ℕ) → text ++ (line ++ []) ≡ text ++ line
one_line text line = ap (λ l. text ++ l) (append-nil line)

pub plays_refused : (order : spec.Action) (m m' : State) (r : Refusal) (v w new : Seat) (before after : List ℕ) (a b : Option (List (List ℕ)))
    → v ≡ w → v.manager ≡ m.manager → HasAction documents.Orders order
    → (asking order m.manager).refusal ≡ Some r → m' ≡ m
    → new ≡ record { manager = m'.manager; turn = v.turn; sent = v.sent; given = v.given }
    → after ≡ before ++ line_text v.turn (effect.Refused r) → b ≡ a
    → Plays (ordered order (seat_ends w)) w new before after a b
plays_refused order m m' r v w new before after a b same on has some m_is new_is after_is b_is =
    let at : m.manager ≡ w.manager = sym on ∙ ap (λ (x : Seat). x.manager) same in
    let kept : new ≡ w = new_is
    ∙ ap (λ (x : State). record { manager = x.manager; turn = v.turn; sent = v.sent; given = v.given }) m_is
    ∙ ap (λ (x : Manager). record { manager = x; turn = v.turn; sent = v.sent; given = v.given }) (sym on) ∙ same in
    subst (λ (st : Step). Plays st w new before after a b)
    (refused_order order w r has (ap (λ (x : Manager). (asking order x).refusal) (sym at) ∙ some))
    (record {
      ends = ap (λ (x : Seat). seat_ends x) kept;
      turn = ap (λ (x : Seat). x.turn) kept;
      count = ap (λ (x : Seat). x.sent) kept;
      given = ap (λ (x : Seat). x.given) kept;
      text = after_is ∙ ap (λ (x : Seat). before ++ line_text x.turn (effect.Refused r)) same
          ∙ sym (one_line before (line_text w.turn (effect.Refused r)));
      packets = b_is ∙ nothing_added a;
    })

-- ---- what the link gives

pub plays_came : (bytes : List ℕ) (m m' : State) (v w new : Seat) (ps : List (List ℕ)) (before after : List ℕ) (a b : Option (List (List ℕ)))
    → v ≡ w → v.manager ≡ m.manager
    → m' ≡ sound (after_packet bytes m.manager).manager → ps ≡ packets_of (after_packet bytes m.manager).sendings
    → new ≡ record { manager = record m'.manager { reports = [] }; turn = v.turn; sent = v.sent + length ps; given = v.given }
    → after ≡ before ++ (reports_text v.turn m'.manager.copy m'.manager.table.rows m'.manager.reports ++ downs_text v.turn v.sent ps)
    → b ≡ packets_after ps a
    → Plays (arrived (Came bytes) (seat_ends w)) w new before after a b
plays_came bytes m m' v w new ps before after a b same on m_is ps_is new_is after_is b_is =
    let at : m.manager ≡ w.manager = sym on ∙ ap (λ (x : Seat). x.manager) same in
    let did = plays_did (after_packet bytes w.manager) m' v w new ps before after a b same
    (m_is ∙ ap (λ (x : Manager). sound (after_packet bytes x).manager) at)
    (ps_is ∙ ap (λ (x : Manager). packets_of (after_packet bytes x).sendings) at)
    new_is after_is b_is in
    record { ends = did.ends; turn = did.turn; count = did.count; given = did.given; text = did.text; packets = did.packets }

pub sends_came : (bytes : List ℕ) (m : State) (v w : Seat) (ps : List (List ℕ)) (a b : Option (List (List ℕ)))
    → v ≡ w → v.manager ≡ m.manager → ps ≡ packets_of (after_packet bytes m.manager).sendings
    → SendsFront ps a b → SendsFront (packets_in (arrived (Came bytes) (seat_ends w)).happenings) a b
sends_came bytes m v w ps a b same on ps_is part =
    let at : m.manager ≡ w.manager = sym on ∙ ap (λ (x : Seat). x.manager) same in
    sends_did (after_packet bytes w.manager) w ps a b (ps_is ∙ ap (λ (x : Manager). packets_of (after_packet bytes x).sendings) at) part

pub plays_second : (m m' : State) (v w new : Seat) (ps : List (List ℕ)) (before after : List ℕ) (a b : Option (List (List ℕ)))
    → v ≡ w → v.manager ≡ m.manager
    → m' ≡ sound (after_tick m.manager).manager → ps ≡ packets_of (after_tick m.manager).sendings
    → new ≡ record { manager = record m'.manager { reports = [] }; turn = v.turn; sent = v.sent + length ps; given = v.given }
    → after ≡ before ++ (reports_text v.turn m'.manager.copy m'.manager.table.rows m'.manager.reports ++ downs_text v.turn v.sent ps)
    → b ≡ packets_after ps a
    → Plays (arrived Quiet (seat_ends w)) w new before after a b
plays_second m m' v w new ps before after a b same on m_is ps_is new_is after_is b_is =
    let at : m.manager ≡ w.manager = sym on ∙ ap (λ (x : Seat). x.manager) same in
    plays_did (after_tick w.manager) m' v w new ps before after a b same
    (m_is ∙ ap (λ (x : Manager). sound (after_tick x).manager) at)
    (ps_is ∙ ap (λ (x : Manager). packets_of (after_tick x).sendings) at)
    new_is after_is b_is

pub sends_second : (m : State) (v w : Seat) (ps : List (List ℕ)) (a b : Option (List (List ℕ)))
    → v ≡ w → v.manager ≡ m.manager → ps ≡ packets_of (after_tick m.manager).sendings
    → SendsFront ps a b → SendsFront (packets_in (arrived Quiet (seat_ends w)).happenings) a b
sends_second m v w ps a b same on ps_is part =
    let at : m.manager ≡ w.manager = sym on ∙ ap (λ (x : Seat). x.manager) same in
    sends_did (after_tick w.manager) w ps a b (ps_is ∙ ap (λ (x : Manager). packets_of (after_tick x).sendings) at) part

-- the link's end does nothing
pub plays_closed : (w : Seat) (text : List ℕ) (a b : Option (List (List ℕ))) → b ≡ a
    → Plays (arrived Closed (seat_ends w)) w w text text a b
plays_closed w text a b same = record {
  ends = refl;
  turn = refl;
  count = refl;
  given = refl;
  text = sym (append-nil text);
  packets = same ∙ nothing_added a;
}
