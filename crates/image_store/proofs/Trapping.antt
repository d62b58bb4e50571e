-- A store whose disk has another trap.
use Rattle.std.proofs.Common.{◌≡◌, ℕ, List, Option, sym, ◌∙◌, subst}
use Rattle.slot_spec.specs.declared.DiskHeader.{DiskHeader}
use Rattle.slot_spec.specs.Slots.{SlotPair}
use Rattle.slot_spec.specs.Owner.{Settled}
use Rattle.image_slots.specs.declared.download.Download.{Download}
use Rattle.window_spec.specs.Incoming.{Window}
use Rattle.store_spec.specs.State.{StoreState}
use Rattle.image_store.specs.Stands.{LoadingStands}

module _ {D : Type 0} (seen : D → Option (List ℕ)) (may_leave : D → List ℕ → Type 0) where
  -- a disk that reads as before, and of which a crash leaves no more than before
  abbrev pub Reads : D → D → Type 0
  Reads old new = (seen new ≡ seen old)
      × ((image : List ℕ) → may_leave new image → may_leave old image)

  settled_trap : (old new : D) (header : DiskHeader) (s : SlotPair) → Reads old new
      → Settled seen may_leave old header s → Settled seen may_leave new header s
  settled_trap old new header s reads settled = record {
    bytes = settled.bytes;
    reads = reads.0 ∙ settled.reads;
    shows = settled.shows;
    crash = λ image left. settled.crash image (reads.1 image left);
  }

  with_disk : (room active granted : ℕ) (window : Window) (old : Download D) (disk : D)
      (m : StoreState) → Reads old.disk disk
      → LoadingStands seen may_leave room active granted window old m
      → LoadingStands seen may_leave room active granted window (record old { disk = disk }) m
  unfolding settled_trap
  with_disk room active granted window old disk m reads l = record {
    whole = l.whole;
    room_is = l.room_is;
    active_is = l.active_is;
    put = l.put;
    filling = record {
      settled = settled_trap old.disk disk old.header m.slots reads l.filling.settled;
      shut = l.filling.shut;
      other = l.filling.other;
      fits = l.filling.fits;
      stands_there = l.filling.stands_there;
    };
    loaded = record {
      have = l.loaded.have;
      check = l.loaded.check;
      version_is = l.loaded.version_is;
      some = l.loaded.some;
      fits = l.loaded.fits;
    };
    download_is = l.download_is;
  }

  pub loading_trap : (room active granted : ℕ) (window : Window) (old new : Download D)
      (m : StoreState) → new ≡ record old { disk = new.disk } → Reads old.disk new.disk
      → LoadingStands seen may_leave room active granted window old m
      → LoadingStands seen may_leave room active granted window new m
  loading_trap room active granted window old new m kept reads l =
      subst (λ (d : Download D). LoadingStands seen may_leave room active granted window d m)
      (sym kept) (with_disk room active granted window old new.disk m reads l)
