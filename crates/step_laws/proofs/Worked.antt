-- The scripts that were worked by hand end so: the definitions are evaluated.
use Rattle.std.proofs.Common.{◌≡◌, ℕ, Some, inl, inr, refl, arith}
use Rattle.frame_spec.specs.Checksum.{crc, dividend, divide, without_first, generator, add_to_front}
use Rattle.frame_spec.specs.Checksum.{inverted, inverted_bit, bits_of, number_of, message_bits}
use Rattle.frame_spec.specs.Baseline.{checked_bytes, spelling, number_at, frame_of, trailer_at}
use Rattle.frame_spec.specs.Baseline.{given_check, computed_check, fault_of, frame_unless}
use Rattle.frame_spec.specs.Baseline.{packet_frame}
use Rattle.message_spec.specs.Fields.{padding, put}
use Rattle.message_spec.specs.Reading.{plain, message_of}
use Rattle.message_spec.specs.Types.{type_numbered, kind_of}
use Rattle.class_spec.specs.Classes.{class_table, class_row}
use Rattle.class_spec.specs.Masks.{known_mask, unknown_mask, fixed_mask, width_of}
use Rattle.mib_spec.specs.Database.{managed_of, with_entity, without_entity, zeros_of, values_of}
use Rattle.mib_spec.specs.Database.{with_values, counter, with_counter, with_counter_grown}
use Rattle.mib_spec.specs.Database.{image_values, with_software, ethernet, onu_g, onu2_g, t_cont}
use Rattle.mib_spec.specs.Database.{first_with, first}
use Rattle.mib_spec.specs.Requests.{new_entity, create_code, create_outcome, delete_code}
use Rattle.mib_spec.specs.Requests.{delete_outcome, set_code, set_effect, set_outcome, get_code}
use Rattle.mib_spec.specs.Requests.{get_outcome_in, reset_code, reset}
use Rattle.upload_spec.specs.Pieces.{piece_of, pieces, piece_at}
use Rattle.upload_spec.specs.Copies.{copied, copied_values, with_copied, without_copied, with_piece}
use Rattle.upload_spec.specs.Copies.{piece_fault, copied_counter, copy_counter, after_create}
use Rattle.upload_spec.specs.Copies.{after_set, after_delete, copy_grown}
use Rattle.retry_spec.specs.Kept.{kept_for, kept_with}
use Rattle.unit_spec.specs.Onu.{onu_started, answer, take_request, onu_received, onu_ticked}
use Rattle.lane_spec.specs.Command.{command_frame}
use Rattle.lane_spec.specs.Lane.{lane_tick, lane_reply}
use Rattle.manager_spec.specs.Copying.{followed}
use Rattle.manager_spec.specs.Resync.{gather_on}
use Rattle.manager_spec.specs.Jobs.{job_goes_on}
use Rattle.manager_spec.specs.Submitting.{after_probe, after_submit, after_check, after_resync}
use Rattle.manager_spec.specs.Steps.{response_of, after_packet, after_tick}
use Rattle.slot_spec.specs.Layout.{version}
use Rattle.link_spec.specs.Link.{allowed, ways_past, fresh}
use Rattle.world_spec.specs.Ends.{arrives, noise, second}
use Rattle.world_spec.specs.Nodes.{delivery, flow, acted, step, nodes_after}
use Rattle.world_spec.specs.History.{told_after}
use Rattle.manager_spec.specs.declared.Phase.TheVariants as phase
use Rattle.world_laws.specs.WorkedCopies.{resynchronised}
use Rattle.step_laws.specs.Worked.{created_alone, started_again, end_nodes, EndsInStep, phase_of}
use Rattle.step_laws.specs.Worked.{unit_counter, copied_count}

pub record Ends : Type 0 where
  pub synced : EndsInStep resynchronised 2
  pub synced_unit : unit_counter (end_nodes resynchronised).ends.unit ≡ Some 0
  pub synced_copy : copied_count (end_nodes resynchronised).ends.manager ≡ Some 0
  pub alone : EndsInStep created_alone 2
  pub alone_unit : unit_counter (end_nodes created_alone).ends.unit ≡ Some 1
  pub alone_copy : copied_count (end_nodes created_alone).ends.manager ≡ Some 0
  pub again_phase : phase_of (end_nodes started_again).ends.manager ≡ Some phase.InStep
  pub again_apart : (command : ℕ) → EndsInStep started_again command → ⊥

pub ends : Ends
unfolding version resynchronised created_alone started_again nodes_after crc dividend divide without_first
    generator add_to_front inverted inverted_bit bits_of number_of message_bits checked_bytes
    spelling number_at frame_of trailer_at given_check computed_check fault_of frame_unless packet_frame
    padding put plain message_of type_numbered kind_of class_table class_row known_mask
    unknown_mask fixed_mask width_of managed_of with_entity without_entity zeros_of values_of
    with_values counter with_counter with_counter_grown image_values with_software ethernet onu_g
    onu2_g t_cont first_with first new_entity create_code create_outcome delete_code
    delete_outcome set_code set_effect set_outcome get_code get_outcome_in reset_code reset
    piece_of pieces piece_at copied copied_values with_copied without_copied with_piece
    piece_fault copied_counter copy_counter after_create after_set after_delete copy_grown
    kept_for kept_with onu_started answer take_request onu_received onu_ticked command_frame
    lane_tick lane_reply followed gather_on job_goes_on response_of after_packet after_tick
    after_probe after_submit after_check after_resync allowed ways_past fresh arrives noise
    second delivery flow acted step told_after
ends = record {
  synced = record {
    manager = _;
    unit = _;
    are = record {
      managed = refl;
      on = refl;
      in_step = refl;
      synced = refl;
      life = inl (refl, refl);
    };
  };
  synced_unit = refl;
  synced_copy = refl;
  alone = record {
    manager = _;
    unit = _;
    are = record {
      managed = refl;
      on = refl;
      in_step = refl;
      synced = refl;
      life = inl (refl, refl);
    };
  };
  alone_unit = refl;
  alone_copy = refl;
  again_phase = refl;
  again_apart = λ command e.
      let s = e.are.synced in
      elim e.are.life as (λ _. ⊥) [
        | inl k ↦ (let a = k.1 in omega (arith, a))
        | inr k ↦ k.0 s
      ];
}
