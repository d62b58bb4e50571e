-- What a line submits, and which lines submit nothing.
use Rattle.std.proofs.Common.{◌≡◌, ℕ, List, Option, Some, None, refl, sym, ◌∙◌, ap}
use Rattle.omci_types.specs.declared.Priority.{Priority}
use Rattle.omci_types.specs.declared.EntityId.{EntityId}
use Rattle.slot_spec.specs.declared.Pick.{Pick}
use Rattle.link_spec.specs.Link.{Link}
use Rattle.manager_spec.specs.Submitting.{after_submit}
use Rattle.script_spec.specs.Script as spec
use Rattle.world_spec.specs.Ends.{Ends, Step, submission}
use Rattle.world_spec.specs.Nodes.{acted}
use Rattle.replay_script.specs.Events.{action_of}
use Rattle.replay_script.specs.declared.script.Event.{Event}
use Rattle.replay_script.specs.declared.script.Event.TheVariants as event
use Rattle.manager_orders.specs.declared.asked.Asked.{Asked}
use Rattle.manager_orders.specs.Asking.{asked_by}

abbrev submitted : Asked → Ends → Step
submitted q e = submission (after_submit q.lane q.entity q.request) e.manager e

same_asked : (p q : Asked) → ◌≡◌ {A = Option Asked} (Some p) (Some q) → p ≡ q
same_asked p q e = cc

-- the line's step is the submission
pub asked_acted : (a : spec.Action) (q : Asked) (e : Ends) (l : Link) → asked_by a ≡ Some q
    → submission (after_submit q.lane q.entity q.request) e.manager e ≡ acted a (record { ends = e; link = l })
unfolding acted
asked_acted (spec.Reset lane) q e l is = ap (λ x. submitted x e) (sym (same_asked _ q is))
asked_acted (spec.Get lane entity mask) q e l is = ap (λ x. submitted x e) (sym (same_asked _ q is))
asked_acted (spec.Create lane entity values) q e l is = ap (λ x. submitted x e) (sym (same_asked _ q is))
asked_acted (spec.Set lane entity mask values) q e l is = ap (λ x. submitted x e) (sym (same_asked _ q is))
asked_acted (spec.Delete lane entity) q e l is = ap (λ x. submitted x e) (sym (same_asked _ q is))
asked_acted (spec.Activate lane slot) q e l is = ap (λ x. submitted x e) (sym (same_asked _ q is))
asked_acted (spec.Commit lane slot) q e l is = ap (λ x. submitted x e) (sym (same_asked _ q is))
asked_acted (spec.Reboot lane) q e l is = ap (λ x. submitted x e) (sym (same_asked _ q is))
asked_acted (spec.Probe lane) q e l is = absurd (cc)
asked_acted spec.Resync q e l is = absurd (cc)
asked_acted spec.Audit q e l is = absurd (cc)
asked_acted spec.Check q e l is = absurd (cc)
asked_acted (spec.Image slot window crc image) q e l is = absurd (cc)
asked_acted (spec.Deliver packet) q e l is = absurd (cc)
asked_acted (spec.Flow times) q e l is = absurd (cc)
asked_acted (spec.CutIn packet call pick) q e l is = absurd (cc)
asked_acted (spec.NoiseUnit bytes) q e l is = absurd (cc)
asked_acted (spec.NoiseOlt bytes) q e l is = absurd (cc)
asked_acted spec.Tick q e l is = absurd (cc)
asked_acted (spec.Sense entity number value) q e l is = absurd (cc)
asked_acted (spec.Alarm entity bitmap) q e l is = absurd (cc)
asked_acted spec.CutUnit q e l is = absurd (cc)
asked_acted spec.CutOlt q e l is = absurd (cc)
asked_acted spec.StartUnit q e l is = absurd (cc)
asked_acted (spec.StartOlt low high) q e l is = absurd (cc)

-- a line that submits nothing is one of the others
pub others : (e : Event) → asked_by (action_of e) ≡ None
    → ((lane : Priority) → e ≡ event.Probe lane → ⊥)
    → (e ≡ event.Resync → ⊥)
    → (e ≡ event.Audit → ⊥)
    → (e ≡ event.Check → ⊥)
    → ((slot : ℕ) (window : ℕ) (crc : Option ℕ) (image : List ℕ) → e ≡ event.Image slot window crc image → ⊥)
    → ((packet : ℕ) → e ≡ event.Deliver packet → ⊥)
    → ((times : ℕ) → e ≡ event.Flow times → ⊥)
    → ((packet : ℕ) (call : ℕ) (pick : Pick) → e ≡ event.CutIn packet call pick → ⊥)
    → ((bytes : List ℕ) → e ≡ event.NoiseUnit bytes → ⊥)
    → ((bytes : List ℕ) → e ≡ event.NoiseOlt bytes → ⊥)
    → (e ≡ event.Tick → ⊥)
    → ((entity : EntityId) (number : ℕ) (value : List ℕ) → e ≡ event.Sense entity number value → ⊥)
    → ((entity : EntityId) (bitmap : List ℕ) → e ≡ event.Alarm entity bitmap → ⊥)
    → (e ≡ event.CutUnit → ⊥)
    → (e ≡ event.CutOlt → ⊥)
    → (e ≡ event.StartUnit → ⊥)
    → ((low : ℕ) (high : ℕ) → e ≡ event.StartOlt low high → ⊥)
    → ⊥
others (event.Probe lane) none no_probe no_resync no_audit no_check no_image no_deliver no_flow no_cutin no_noiseunit no_noiseolt no_tick no_sense no_alarm no_cutunit no_cutolt no_startunit no_startolt = no_probe lane refl
others event.Resync none no_probe no_resync no_audit no_check no_image no_deliver no_flow no_cutin no_noiseunit no_noiseolt no_tick no_sense no_alarm no_cutunit no_cutolt no_startunit no_startolt = no_resync refl
others event.Audit none no_probe no_resync no_audit no_check no_image no_deliver no_flow no_cutin no_noiseunit no_noiseolt no_tick no_sense no_alarm no_cutunit no_cutolt no_startunit no_startolt = no_audit refl
others event.Check none no_probe no_resync no_audit no_check no_image no_deliver no_flow no_cutin no_noiseunit no_noiseolt no_tick no_sense no_alarm no_cutunit no_cutolt no_startunit no_startolt = no_check refl
others (event.Image slot window crc image) none no_probe no_resync no_audit no_check no_image no_deliver no_flow no_cutin no_noiseunit no_noiseolt no_tick no_sense no_alarm no_cutunit no_cutolt no_startunit no_startolt = no_image slot window crc image refl
others (event.Deliver packet) none no_probe no_resync no_audit no_check no_image no_deliver no_flow no_cutin no_noiseunit no_noiseolt no_tick no_sense no_alarm no_cutunit no_cutolt no_startunit no_startolt = no_deliver packet refl
others (event.Flow times) none no_probe no_resync no_audit no_check no_image no_deliver no_flow no_cutin no_noiseunit no_noiseolt no_tick no_sense no_alarm no_cutunit no_cutolt no_startunit no_startolt = no_flow times refl
others (event.CutIn packet call pick) none no_probe no_resync no_audit no_check no_image no_deliver no_flow no_cutin no_noiseunit no_noiseolt no_tick no_sense no_alarm no_cutunit no_cutolt no_startunit no_startolt = no_cutin packet call pick refl
others (event.NoiseUnit bytes) none no_probe no_resync no_audit no_check no_image no_deliver no_flow no_cutin no_noiseunit no_noiseolt no_tick no_sense no_alarm no_cutunit no_cutolt no_startunit no_startolt = no_noiseunit bytes refl
others (event.NoiseOlt bytes) none no_probe no_resync no_audit no_check no_image no_deliver no_flow no_cutin no_noiseunit no_noiseolt no_tick no_sense no_alarm no_cutunit no_cutolt no_startunit no_startolt = no_noiseolt bytes refl
others event.Tick none no_probe no_resync no_audit no_check no_image no_deliver no_flow no_cutin no_noiseunit no_noiseolt no_tick no_sense no_alarm no_cutunit no_cutolt no_startunit no_startolt = no_tick refl
others (event.Sense entity number value) none no_probe no_resync no_audit no_check no_image no_deliver no_flow no_cutin no_noiseunit no_noiseolt no_tick no_sense no_alarm no_cutunit no_cutolt no_startunit no_startolt = no_sense entity number value refl
others (event.Alarm entity bitmap) none no_probe no_resync no_audit no_check no_image no_deliver no_flow no_cutin no_noiseunit no_noiseolt no_tick no_sense no_alarm no_cutunit no_cutolt no_startunit no_startolt = no_alarm entity bitmap refl
others event.CutUnit none no_probe no_resync no_audit no_check no_image no_deliver no_flow no_cutin no_noiseunit no_noiseolt no_tick no_sense no_alarm no_cutunit no_cutolt no_startunit no_startolt = no_cutunit refl
others event.CutOlt none no_probe no_resync no_audit no_check no_image no_deliver no_flow no_cutin no_noiseunit no_noiseolt no_tick no_sense no_alarm no_cutunit no_cutolt no_startunit no_startolt = no_cutolt refl
others event.StartUnit none no_probe no_resync no_audit no_check no_image no_deliver no_flow no_cutin no_noiseunit no_noiseolt no_tick no_sense no_alarm no_cutunit no_cutolt no_startunit no_startolt = no_startunit refl
others (event.StartOlt low high) none no_probe no_resync no_audit no_check no_image no_deliver no_flow no_cutin no_noiseunit no_noiseolt no_tick no_sense no_alarm no_cutunit no_cutolt no_startunit no_startolt = no_startolt low high refl
others (event.Reset lane) none no_probe no_resync no_audit no_check no_image no_deliver no_flow no_cutin no_noiseunit no_noiseolt no_tick no_sense no_alarm no_cutunit no_cutolt no_startunit no_startolt = absurd (cc)
others (event.Get lane entity mask) none no_probe no_resync no_audit no_check no_image no_deliver no_flow no_cutin no_noiseunit no_noiseolt no_tick no_sense no_alarm no_cutunit no_cutolt no_startunit no_startolt = absurd (cc)
others (event.Create lane entity values) none no_probe no_resync no_audit no_check no_image no_deliver no_flow no_cutin no_noiseunit no_noiseolt no_tick no_sense no_alarm no_cutunit no_cutolt no_startunit no_startolt = absurd (cc)
others (event.Set lane entity mask values) none no_probe no_resync no_audit no_check no_image no_deliver no_flow no_cutin no_noiseunit no_noiseolt no_tick no_sense no_alarm no_cutunit no_cutolt no_startunit no_startolt = absurd (cc)
others (event.Delete lane entity) none no_probe no_resync no_audit no_check no_image no_deliver no_flow no_cutin no_noiseunit no_noiseolt no_tick no_sense no_alarm no_cutunit no_cutolt no_startunit no_startolt = absurd (cc)
others (event.Activate lane slot) none no_probe no_resync no_audit no_check no_image no_deliver no_flow no_cutin no_noiseunit no_noiseolt no_tick no_sense no_alarm no_cutunit no_cutolt no_startunit no_startolt = absurd (cc)
others (event.Commit lane slot) none no_probe no_resync no_audit no_check no_image no_deliver no_flow no_cutin no_noiseunit no_noiseolt no_tick no_sense no_alarm no_cutunit no_cutolt no_startunit no_startolt = absurd (cc)
others (event.Reboot lane) none no_probe no_resync no_audit no_check no_image no_deliver no_flow no_cutin no_noiseunit no_noiseolt no_tick no_sense no_alarm no_cutunit no_cutolt no_startunit no_startolt = absurd (cc)
