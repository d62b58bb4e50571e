-- The kept replies: for each priority none, or the reply that was given last with its request's
-- TCI.
use Rattle.std.specs.Prelude.{ℕ, ◌==◌, if◌then◌else◌, List, Option, Some, None}
use Rattle.omci_types.specs.declared.Priority.{Priority}
use Rattle.omci_types.specs.declared.Priority.TheVariants.{Low, High}
use Rattle.tci_spec.specs.Tci.{priority_of}

-- a reply's packet, and the TCI of the request that it answers
pub record Reply : Type 0 where
  pub tci : ℕ
  pub packet : List ℕ

pub record Kept : Type 0 where
  pub low : Option Reply
  pub high : Option Reply

abbrev pub nothing_kept : Kept
nothing_kept = record { low = None; high = None }

-- what is kept in a priority
abbrev pub kept_in : Priority → Kept → Option Reply
kept_in Low k = k.low
kept_in High k = k.high

-- a reply is kept in a priority in place of the one before, and the other priority is left alone
abbrev pub keep_in : Priority → Reply → Kept → Kept
keep_in Low r k = record k { low = Some r }
keep_in High r k = record k { high = Some r }

-- the packet of a reply, where it answers a request of that TCI
abbrev pub if_answers : ℕ → Option Reply → Option (List ℕ)
if_answers tci None = None
if_answers tci (Some r) = if r.tci == tci then Some r.packet else None

-- the kept reply to a request of that TCI
unfoldable pub kept_for : ℕ → Kept → Option (List ℕ)
kept_for tci k = if_answers tci (kept_in (priority_of tci) k)

-- the reply to a request of that TCI is kept
unfoldable pub kept_with : ℕ → List ℕ → Kept → Kept
kept_with tci packet k = keep_in (priority_of tci) (record { tci = tci; packet = packet }) k
