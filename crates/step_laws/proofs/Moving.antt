-- What goes on beside the manager: on the link, and at the unit.
use Rattle.std.proofs.Common.{◌≡◌, ℕ, true, List, length, Option, Some, subst}
use Rattle.mib_spec.specs.Database.{Database, has_unit_entities}
use Rattle.upload_spec.specs.Pieces.{Copy}
use Rattle.link_spec.specs.Link.{Sent, Link, emptied}
use Rattle.manager_spec.specs.Manager.{Manager}
use Rattle.unit_spec.specs.Onu.{Onu}
use Rattle.history_spec.specs.History.{Entry, WasCarried}
use Rattle.world_spec.specs.History.{Told}
use Rattle.resync_laws.specs.Agreeing.{IsCopied}
use Rattle.manager_spec.specs.Steps.{response_of}
use Rattle.step_laws.proofs.Copying.{followed_copy}
use Rattle.step_laws.proofs.Coming.{Coming, coming_none}
use Rattle.step_laws.proofs.Parts.{out_in, last_in, IsNewest, IsBelow, IsLeft, IsPut, IsCalm}
use Rattle.step_laws.proofs.Parts.{IsSettled, NoPacket, InPhase, Steady, Kept, left_of}

-- ---- on the link

-- no other request may come
module _ (link a : Link) (lives : ℕ) (unit : Option Onu) (m : Manager) (t : Told) (came : ℕ)
    (packet : List ℕ) (names : List ℕ) (same : length a.packets ≡ length names)
    (keeps : (P : Sent → ℕ → Type 0) → Coming P link t.names → Coming P a names) where
  abbrev now : Told
  now = record t { came = came; packet = packet; names = names }

  moved_put : (P : List ℕ → Type 0) (upload : ℕ) → IsPut P upload link lives m t
      → IsPut P upload a lives m now
  moved_put P upload h = record {
    early = h.early;
    packets =
        keeps (IsLeft P upload lives t.history) h.packets;
    out = h.out;
  }

  moved_phase : (copy : Copy) (upload : ℕ) → InPhase link lives unit m t copy upload
      → InPhase a lives unit m now copy upload
  moved_phase copy upload h = record {
    synced = h.synced;
    put = moved_put NoPacket upload h.put;
    one = h.one;
    made = h.made;
    settled = keeps (IsSettled lives m t) h.settled;
    idle = h.idle;
    ahead = h.ahead;
  }

  pub moved_steady : Steady link lives unit m t → Steady a lives unit m now
  moved_steady h = record {
    same = same;
    below = keeps (IsBelow t.drawn) h.below;
    lanes = λ lane. let k = h.lanes lane in record {
      priority = k.priority;
      number = k.number;
      out = k.out;
      newest = keeps (IsNewest lane (last_in lane t) (out_in lane m)) k.newest;
    };
    apart = h.apart;
    known = h.known;
    job = λ s e. let k = h.job s e in record {
      quiet = k.quiet;
      calm = λ lane p. keeps (IsCalm lane) (k.calm lane p);
      put = λ p. moved_put (left_of s) t.asking (k.put p);
      current = k.current;
    };
    phase = λ e. let k = h.phase e in record {
      copy = k.copy;
      upload = k.upload;
      has =
          k.has;
      phase = moved_phase k.copy k.upload k.phase;
    };
  }

-- ---- at the unit

-- a database that has the unit's entities if the one before had them, and agrees with the same
-- copies
pub record IsLike (before after : Database) : Type 0 where
  pub has : has_unit_entities before ≡ true → has_unit_entities after ≡ true
  pub copied : (copy : Copy) → IsCopied before copy → IsCopied after copy

pub like_database : (before after : Database) → before ≡ after → IsLike before after
like_database before after e = record {
  has = λ h. subst (λ d. has_unit_entities d ≡ true) e h;
  copied = λ copy h. subst (λ d. IsCopied d copy) e h;
}

-- a unit that is on was on, and has such a database
pub record IsLikeUnit (before after : Option Onu) : Type 0 where
  pub from : (v : Onu) → after ≡ Some v → (u : Onu) × (before ≡ Some u)
      × IsLike u.database v.database

module _ (link : Link) (lives : ℕ) (unit after : Option Onu) (m : Manager) (t : Told)
    (o : IsLikeUnit unit after) where
  unit_phase : (copy : Copy) (upload : ℕ) → InPhase link lives unit m t copy upload
      → InPhase link lives after m t copy upload
  unit_phase copy upload h = record {
    synced = h.synced;
    put = h.put;
    one = h.one;
    made = h.made;
    settled = h.settled;
    idle = λ v on up none. let k = o.from v on in k.2.copied copy (h.idle k.0 k.1 up none);
    ahead = λ v lane w on up e g was.
        let k = o.from v on in
        let x = h.ahead k.0 lane w k.1 up e g was in
        record {
          before = x.before;
          carried = x.carried;
          agreed = x.agreed;
          later =
              λ r f last read. k.2.copied (followed_copy w.command.entity w.command.request
              (response_of f) copy) (x.later r f last read);
        };
  }

  pub unit_steady : Steady link lives unit m t → Steady link lives after m t
  unit_steady h = record {
    same = h.same;
    below = h.below;
    lanes = h.lanes;
    apart = h.apart;
    known = h.known;
    job = λ s e. let k = h.job s e in record {
      quiet = k.quiet;
      calm = k.calm;
      put = k.put;
      current = λ p v on was.
          let q = o.from v on in
          let x = k.current p q.0 q.1 was in
          record { copy = x.copy; last = x.last; agrees = q.2.copied x.copy x.agrees };
    };
    phase = λ e. let k = h.phase e in record {
      copy = k.copy;
      upload = k.upload;
      has =
          k.has;
      phase = unit_phase k.copy k.upload k.phase;
    };
  }

pub unit_kept : (lives : ℕ) (unit after : Option Onu) (history : List Entry) → IsLikeUnit unit after
    → Kept lives unit history → Kept lives after history
unit_kept lives unit after history o h = record {
  has = λ v on. let k = o.from v on in k.2.has (h.has k.0 k.1);
  past = h.past;
  snapshots = h.snapshots;
}

-- another life of the unit
module _ (link : Link) (lives more : ℕ) (unit after : Option Onu) (m : Manager) (t : Told)
    (never : (command : ℕ) → WasCarried more command t.history → ⊥) where
  life_put : (P : List ℕ → Type 0) (upload : ℕ) → IsPut P upload link lives m t
      → IsPut P upload (emptied link) more m t
  life_put P upload h = record {
    early = h.early;
    packets =
        coming_none (IsLeft P upload more t.history) link t.names;
    out = h.out;
  }

  pub life_steady : Steady link lives unit m t → Steady (emptied link) more after m t
  life_steady h = record {
    same = h.same;
    below = coming_none (IsBelow t.drawn) link t.names;
    lanes = λ lane. let k = h.lanes lane in record {
      priority = k.priority;
      number = k.number;
      out = k.out;
      newest = coming_none (IsNewest lane (last_in lane t) (out_in lane m)) link t.names;
    };
    apart = h.apart;
    known = h.known;
    job = λ s e. let k = h.job s e in record {
      quiet = k.quiet;
      calm = λ lane p. coming_none (IsCalm lane) link t.names;
      put = λ p. life_put (left_of s) t.asking (k.put p);
      current = λ p v on was. absurd (never t.asking was);
    };
    phase = λ e. let k = h.phase e in record {
      copy = k.copy;
      upload = k.upload;
      has = k.has;
      phase = record {
        synced = k.phase.synced;
        put = life_put NoPacket k.upload k.phase.put;
        one = k.phase.one;
        made = k.phase.made;
        settled = coming_none (IsSettled more m t) link t.names;
        idle = λ v on up none. absurd (never k.upload up);
        ahead = λ v lane w on up x y was. absurd (never k.upload up);
      };
    };
  }
