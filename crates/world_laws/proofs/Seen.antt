-- The trace and the history tell the same of a script.
use Rattle.std.proofs.Common.{◌≡◌, ℕ, List, [], ◌∷◌, ◌++◌, refl, sym, ap, ◌∙◌, append_assoc}
use Rattle.std.specs.Prelude.{map}
use Rattle.std.specs.List.{flat_map}
use Rattle.omci_types.specs.declared.Priority.TheVariants.{Low, High}
use Rattle.unit_spec.specs.declared.Note.TheVariants as note
use Rattle.link_spec.specs.Link.{count}
use Rattle.script_spec.specs.Script.{Script, Action}
use Rattle.world_spec.specs.declared.Effect.TheVariants as effect
use Rattle.world_spec.specs.Happenings.{Happening, UnitNoted, CommandDrawn, next_after}
use Rattle.world_spec.specs.Ends.{factory_software}
use Rattle.world_spec.specs.Nodes.{Nodes, step, first_nodes}
use Rattle.world_spec.specs.Trace.{happening_text, line_text, lines_text, trace_from, trace}
use Rattle.world_spec.specs.History.{Told, first_told, tell, tell_all, told_after, history_of}
use Rattle.world_laws.specs.Seen.{Seen, seen_in, seen_from, all_seen, lines_of, deed_of, with_happening, packet_after, deeds_after}

-- ---- the trace

lines_append : (xs ys : List Seen) → flat_map lines_of (xs ++ ys)
    ≡ flat_map lines_of xs ++ flat_map lines_of ys
lines_append [] ys = refl
lines_append (x ∷ xs) ys =
    ap (λ l. lines_of x ++ l) (lines_append xs ys)
    ∙ sym (append_assoc (lines_of x) (flat_map lines_of xs) (flat_map lines_of ys))

event_lines : (event next : ℕ) (hs : List Happening) → flat_map lines_of (seen_in event next hs)
    ≡ lines_text event next hs
event_lines event next [] = refl
event_lines event next (h ∷ rest) = ap (λ l. happening_text event next h ++ l)
    (event_lines event (next_after h next) rest)

seen_lines : (actions : List Action) (n : Nodes) → trace_from actions n
    ≡ flat_map lines_of (seen_from actions n)
unfolding trace_from seen_from
seen_lines [] n = refl
seen_lines (a ∷ rest) n =
    ap (λ l. l ++ trace_from rest (step a n).nodes)
    (sym (event_lines (step a n).nodes.ends.event (count n.link) (step a n).happenings))
    ∙ ap (λ l. flat_map lines_of (seen_in (step a n).nodes.ends.event (count n.link)
    (step a n).happenings) ++ l) (seen_lines rest (step a n).nodes)
    ∙ sym (lines_append (seen_in (step a n).nodes.ends.event (count n.link) (step a n).happenings)
    (seen_from rest (step a n).nodes))

pub trace_is_seen : (s : Script) → trace s ≡ flat_map lines_of (all_seen s)
unfolding trace
trace_is_seen s =
    ap (λ l. line_text 0 (effect.UnitStarted 1 (factory_software s.header.factory)) ++ l)
    (seen_lines s.actions (first_nodes s.header))

-- ---- the history

one_deed : (h : Happening) (t : Told) → map deed_of (tell h t).history
    ≡ with_happening h t.packet (map deed_of t.history)
one_deed (CommandDrawn Low) t = refl
one_deed (CommandDrawn High) t = refl
one_deed (UnitNoted life (note.Snapshot entities counter) before) t = refl
one_deed (UnitNoted life (note.Alarms rows) before) t = refl
one_deed (UnitNoted life (note.Sealed slot size check) before) t = refl
one_deed (UnitNoted life (note.Committed slot) before) t = refl
one_deed (UnitNoted life (note.Leaving boot) before) t = refl
one_deed _ t = refl

one_packet : (h : Happening) (t : Told) → (tell h t).packet ≡ packet_after h t.packet
one_packet (CommandDrawn Low) t = refl
one_packet (CommandDrawn High) t = refl
one_packet (UnitNoted life (note.Snapshot entities counter) before) t = refl
one_packet (UnitNoted life (note.Alarms rows) before) t = refl
one_packet (UnitNoted life (note.Sealed slot size check) before) t = refl
one_packet (UnitNoted life (note.Committed slot) before) t = refl
one_packet (UnitNoted life (note.Leaving boot) before) t = refl
one_packet _ t = refl

-- what follows an event finds the deeds and the packet that the event left
event_deeds : (event next : ℕ) (hs : List Happening) (later : List Seen) (t : Told)
    → deeds_after later (tell_all hs t).packet (map deed_of (tell_all hs t).history)
    ≡ deeds_after (seen_in event next hs ++ later) t.packet (map deed_of t.history)
event_deeds event next [] later t = refl
event_deeds event next (h ∷ rest) later t =
    event_deeds event (next_after h next) rest later (tell h t)
    ∙ ap (λ packet. deeds_after (seen_in event (next_after h next) rest ++ later) packet
    (map deed_of (tell h t).history)) (one_packet h t)
    ∙ ap (λ older. deeds_after (seen_in event (next_after h next) rest ++ later)
    (packet_after h t.packet) older) (one_deed h t)

seen_deeds : (actions : List Action) (n : Nodes) (t : Told)
    → map deed_of (told_after actions n t).history
    ≡ deeds_after (seen_from actions n) t.packet (map deed_of t.history)
unfolding told_after seen_from
seen_deeds [] n t = refl
seen_deeds (a ∷ rest) n t =
    seen_deeds rest (step a n).nodes (tell_all (step a n).happenings t)
    ∙ event_deeds (step a n).nodes.ends.event (count n.link) (step a n).happenings
    (seen_from rest (step a n).nodes) t

pub history_is_seen : (s : Script) → map deed_of (history_of s.header s.actions)
    ≡ deeds_after (all_seen s) [] []
history_is_seen s = seen_deeds s.actions (first_nodes s.header) first_told
