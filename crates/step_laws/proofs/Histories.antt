-- The history after a request was carried out.
use Rattle.std.proofs.Common.{◌≡◌, ◌≢◌, ℕ, List, Option, Some, None, ◌⊎◌, inl, inr, refl}
use Rattle.mib_spec.specs.Database.{Database}
use Rattle.upload_spec.specs.Pieces.{Copy}
use Rattle.unit_spec.specs.declared.Note.{Note}
use Rattle.unit_spec.specs.declared.Note.TheVariants as note
use Rattle.unit_spec.specs.Onu.{Onu}
use Rattle.history_spec.specs.History.{Entry, WasCarried, LastReply, LastSnapshot}
use Rattle.resync_laws.proofs.Serving.{history_after}
use Rattle.step_laws.specs.InStep.{LastSynced, LastSnapshotIn, CarriedOn}

-- it has one command more that was carried out, with that reply, on that database
pub record Grown (lives came : ℕ) (reply : List ℕ) (before : Database)
    (history newer : List Entry) : Type 0 where
  pub was : (life c : ℕ) → WasCarried life c newer
      → ((lives ≡ life) × (came ≡ c)) ⊎ WasCarried life c history
  pub still : (life c : ℕ) → WasCarried life c history → WasCarried life c newer
  pub now : WasCarried lives came newer
  pub last : (c : ℕ) (r : List ℕ) → LastReply c r newer
      → ((came ≡ c) × (reply ≡ r)) ⊎ ((came ≢ c) × LastReply c r history)
  pub synced : (c : ℕ) → LastSynced c history → LastSynced c newer
  pub put : (c : ℕ) (copy : Copy) → came ≢ c → LastSnapshot c copy history
      → LastSnapshot c copy newer
  pub on : CarriedOn lives came before newer
  pub on_still : (life c : ℕ) (database : Database) → CarriedOn life c database history
      → CarriedOn life c database newer
  pub snapshots : (life c : ℕ) → LastSnapshotIn life c newer
      → ((lives ≡ life) × (came ≡ c)) ⊎ LastSnapshotIn life c history

pub grown : (n : Option Note) (lives came : ℕ) (reply : List ℕ) (before : Onu)
    (history : List Entry)
    → Grown lives came reply before.database history
    (history_after n lives came reply before history)
grown None lives came reply before history = record {
  was = λ life c h. h;
  still = λ life c h. inr h;
  now = inl (refl, refl);
  last = λ c r h. h;
  synced = λ c h. h;
  put = λ c copy ne h. h;
  on = inl (refl, refl, refl);
  on_still = λ life c database h. inr h;
  snapshots = λ life c h. inr h;
}
grown (Some (note.Snapshot entities counter)) lives came reply before history = record {
  was = λ life c h. h;
  still = λ life c h. inr h;
  now = inl (refl, refl);
  last = λ c r h. h;
  synced = λ c h. h;
  put = λ c copy ne h. inr (ne, h);
  on = inl (refl, refl, refl);
  on_still = λ life c database h. inr h;
  snapshots = λ life c h. elim h as (λ _. ((lives ≡ life) × (came ≡ c))
      ⊎ LastSnapshotIn life c history) [
        | inl e ↦ inl (e.1, e.0)
        | inr e ↦ inr e.1
      ];
}
grown (Some (note.Alarms rows)) lives came reply before history = record {
  was = λ life c h. h;
  still = λ life c h. inr h;
  now = inl (refl, refl);
  last = λ c r h. h;
  synced = λ c h. h;
  put = λ c copy ne h. h;
  on = inl (refl, refl, refl);
  on_still = λ life c database h. inr h;
  snapshots = λ life c h. inr h;
}
grown (Some (note.Sealed slot size check)) lives came reply before history = record {
  was = λ life c h. h;
  still = λ life c h. inr h;
  now = inl (refl, refl);
  last = λ c r h. h;
  synced = λ c h. h;
  put = λ c copy ne h. h;
  on = inl (refl, refl, refl);
  on_still = λ life c database h. inr h;
  snapshots = λ life c h. inr h;
}
grown (Some (note.Committed slot)) lives came reply before history = record {
  was = λ life c h. h;
  still = λ life c h. inr h;
  now = inl (refl, refl);
  last = λ c r h. h;
  synced = λ c h. h;
  put = λ c copy ne h. h;
  on = inl (refl, refl, refl);
  on_still = λ life c database h. inr h;
  snapshots = λ life c h. inr h;
}
grown (Some (note.Leaving boot)) lives came reply before history = record {
  was = λ life c h. h;
  still = λ life c h. inr h;
  now = inl (refl, refl);
  last = λ c r h. h;
  synced = λ c h. h;
  put = λ c copy ne h. h;
  on = inl (refl, refl, refl);
  on_still = λ life c database h. inr h;
  snapshots = λ life c h. inr h;
}
