-- Which lines of orders submit no request, and what those ask for that do.
use Rattle.std.proofs.Common.{◌≡◌, ℕ, List, Option, Some, None, refl, ap}
use Rattle.omci_types.specs.declared.Priority.{Priority}
use Rattle.manager_spec.specs.Manager.{Manager}
use Rattle.manager_spec.specs.Submitting.{after_submit}
use Rattle.script_spec.specs.Script as spec
use Rattle.script_spec.specs.Script.{HasAction}
use Rattle.script_spec.specs.declared.Document.TheVariants as documents
use Rattle.replay_script.specs.Events.{action_of}
use Rattle.replay_script.specs.declared.script.Event.{Event}
use Rattle.replay_script.specs.declared.script.Event.TheVariants as event
use Rattle.manager_orders.specs.declared.asked.Asked.{Asked}
use Rattle.manager_orders.specs.Asking.{asked_by, submitted, asking}

-- a line that submits a request asks for just that
pub submits_asking : (a : spec.Action) (q : Asked) (m : Manager) → asked_by a ≡ Some q
    → asking a m ≡ after_submit q.lane q.entity q.request m
unfolding asking
submits_asking (spec.Probe lane) q m is = absurd (cc)
submits_asking spec.Resync q m is = absurd (cc)
submits_asking spec.Audit q m is = absurd (cc)
submits_asking spec.Check q m is = absurd (cc)
submits_asking (spec.Image slot window crc image) q m is = absurd (cc)
submits_asking a q m is = ap (λ o. submitted o m) is

-- a line of orders that submits no request is one of five
pub five : (e : Event) → asked_by (action_of e) ≡ None → HasAction documents.Orders (action_of e)
    → ((lane : Priority) → e ≡ event.Probe lane → ⊥)
    → (e ≡ event.Resync → ⊥)
    → (e ≡ event.Audit → ⊥)
    → (e ≡ event.Check → ⊥)
    → ((slot : ℕ) (window : ℕ) (crc : Option ℕ) (image : List ℕ) → e ≡ event.Image slot window crc image → ⊥)
    → ⊥
five (event.Probe lane) none has no_probe no_resync no_audit no_check no_image = no_probe lane refl
five event.Resync none has no_probe no_resync no_audit no_check no_image = no_resync refl
five event.Audit none has no_probe no_resync no_audit no_check no_image = no_audit refl
five event.Check none has no_probe no_resync no_audit no_check no_image = no_check refl
five (event.Image slot window crc image) none has no_probe no_resync no_audit no_check no_image = no_image slot window crc image refl
five (event.Reset lane) none has no_probe no_resync no_audit no_check no_image = absurd (cc)
five (event.Get lane entity mask) none has no_probe no_resync no_audit no_check no_image = absurd (cc)
five (event.Create lane entity values) none has no_probe no_resync no_audit no_check no_image = absurd (cc)
five (event.Set lane entity mask values) none has no_probe no_resync no_audit no_check no_image = absurd (cc)
five (event.Delete lane entity) none has no_probe no_resync no_audit no_check no_image = absurd (cc)
five (event.Activate lane slot) none has no_probe no_resync no_audit no_check no_image = absurd (cc)
five (event.Commit lane slot) none has no_probe no_resync no_audit no_check no_image = absurd (cc)
five (event.Reboot lane) none has no_probe no_resync no_audit no_check no_image = absurd (cc)
five e none has no_probe no_resync no_audit no_check no_image = absurd (cc)
