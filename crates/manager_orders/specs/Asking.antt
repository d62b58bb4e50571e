-- What a line asks of the manager.
use Rattle.std.specs.Prelude.{Option, Some, None}
use Rattle.message_spec.specs.declared.Request.TheVariants as request
use Rattle.frame_spec.specs.Widths.{filled}
use Rattle.lane_spec.specs.Command.{sync_entity}
use Rattle.script_spec.specs.Script.{Action, Probe, Reset, Get, Create, Set, Delete, Activate, Commit, Reboot, Resync, Audit, Check, Image}
use Rattle.unit_spec.specs.declared.TheConstants.{ONU_G}
use Rattle.manager_spec.specs.Manager.{Manager, sends_nothing}
use Rattle.manager_spec.specs.Upgrade.{image_entity}
use Rattle.manager_spec.specs.Submitting.{Submission, after_probe, after_submit, after_check, after_resync, after_audit, after_image}
use Rattle.manager_orders.specs.declared.asked.Asked.{Asked}

-- the request that a line submits
abbrev pub asked_by : Action → Option Asked
asked_by (Reset lane) = Some (record { lane = lane; entity = sync_entity; request = request.Reset })
asked_by (Get lane entity mask) =
    Some (record { lane = lane; entity = entity; request = request.Get mask })
asked_by (Create lane entity values) =
    Some (record { lane = lane; entity = entity; request = request.Create (filled 32 values) })
asked_by (Set lane entity mask values) =
    Some (record { lane = lane; entity = entity; request = request.Set mask (filled 30 values) })
asked_by (Delete lane entity) =
    Some (record { lane = lane; entity = entity; request = request.Delete })
asked_by (Activate lane slot) =
    Some (record { lane = lane; entity = image_entity slot; request = request.Activate 0 })
asked_by (Commit lane slot) = Some (record {
  lane = lane;
  entity = image_entity slot;
  request = request.Commit;
})
asked_by (Reboot lane) = Some (record { lane = lane; entity = ONU_G; request = request.Reboot 0 })
asked_by _ = None

-- nothing is asked, and nothing refused
abbrev pub asks_nothing : Manager → Submission
asks_nothing m = record { outcome = sends_nothing m; refusal = None }

abbrev pub submitted : Option Asked → Manager → Submission
submitted None m = asks_nothing m
submitted (Some q) m = after_submit q.lane q.entity q.request m

-- what a line's asking comes to
unfoldable pub asking : Action → Manager → Submission
asking (Probe lane) m = after_probe lane m
asking Resync m = after_resync m
asking Audit m = after_audit m
asking Check m = after_check m
asking (Image slot asked check image) m = after_image slot asked check image m
asking a m = submitted (asked_by a) m
