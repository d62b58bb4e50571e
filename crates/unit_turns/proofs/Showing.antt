-- What the link and the lines show after one more turn.
use Rattle.std.proofs.Common.{◌≡◌, ℕ, List, [], ◌∷◌, ◌++◌, Option, Some, None}
use Rattle.std.proofs.Common.{refl, sym, ap, ◌∙◌, subst, append_assoc}
use Rattle.std.proofs.lemmas.List.{append-nil}
use Rattle.std.specs.Io.KnownBytes.{Appends}
use Rattle.std.proofs.KnownBytes.{Appends-trans}
use Rattle.slot_spec.specs.Slots.{SlotPair}
use Rattle.turn_spec.specs.Arrivals.{Arrival}
use Rattle.turn_spec.specs.UnitTurns.{Turn, unit_run, given_in, TakenFrom}
use Rattle.unit_turns.specs.Taking.{sent_more}
use Rattle.unit_turns.specs.Running.{Shown, TookOne}

-- nothing more is sent
pub sent_none : (told : Option (List (List ℕ))) → sent_more [] told ≡ told
sent_none None = refl
sent_none (Some packets) = ap (λ (x : List (List ℕ)). Some x) (append-nil packets)

pub sent_then : (a b : List (List ℕ)) (told : Option (List (List ℕ)))
    → sent_more b (sent_more a told) ≡ sent_more (a ++ b) told
sent_then a b None = refl
sent_then a b (Some packets) = ap (λ (x : List (List ℕ)). Some x) (append_assoc packets a b)

module _ (room : ℕ) (s0 : SlotPair) (turns : List Turn) (left0 left : Option (List Arrival))
    (sent0 sent : Option (List (List ℕ))) (written0 written : Option (List ℕ)) where
  -- the packets so far are the run's, and so are the lines
  all_sent : (s : Shown room s0 turns [] [] [] left0 left sent0 sent written0 written)
      → s.sent ≡ (unit_run room s0 turns).sent
  all_sent s = sym (append-nil s.sent) ∙ s.sent_all

  all_text : (s : Shown room s0 turns [] [] [] left0 left sent0 sent written0 written)
      → s.text ≡ (unit_run room s0 turns).text
  all_text s = sym (append-nil s.text) ∙ s.text_all

  -- One more turn, in which these packets were sent out of those of the run, and this text was
  -- written out of the run's.
  pub shows_turn : (t : Turn) (now : Option (List Arrival)) (packets rest : List (List ℕ))
      (sent_now : Option (List (List ℕ))) (text text_rest : List ℕ) (written_now : Option (List ℕ))
      → Shown room s0 turns [] [] [] left0 left sent0 sent written0 written
      → TookOne t.arrival left now
      → sent_now ≡ sent_more packets sent
      → (unit_run room s0 turns).sent ++ (packets ++ rest) ≡ (unit_run room s0 (t ∷ turns)).sent
      → Appends written written_now text
      → (unit_run room s0 turns).text ++ (text ++ text_rest)
      ≡ (unit_run room s0 (t ∷ turns)).text
      → Shown room s0 (t ∷ turns) [] rest text_rest left0 now sent0 sent_now written0 written_now
  shows_turn t now packets rest sent_now text text_rest written_now s took sent_is sent_all wrote
      text_all =
      record {
        taken = (left, s.taken, took.0, took.1);
        sent = s.sent ++ packets;
        sent_is = sent_is ∙ ap (λ (x : Option (List (List ℕ))). sent_more packets x) s.sent_is ∙ sent_then s.sent packets sent0;
        sent_all = append_assoc s.sent packets rest
            ∙ ap (λ (x : List (List ℕ)). x ++ (packets ++ rest)) (all_sent s) ∙ sent_all;
        text = s.text ++ text;
        written = Appends-trans written0 written written_now s.text text s.written wrote;
        text_all = append_assoc s.text text text_rest
            ∙ ap (λ (x : List ℕ). x ++ (text ++ text_rest)) (all_text s) ∙ text_all;
      }

  -- an event was taken that counts as no turn
  pub shows_event : (arrival : Arrival) (now : Option (List Arrival))
      (sent_now : Option (List (List ℕ))) (written_now : Option (List ℕ))
      → Shown room s0 turns [] [] [] left0 left sent0 sent written0 written
      → TookOne arrival left now → sent_now ≡ sent → written_now ≡ written
      → Shown room s0 turns (arrival ∷ []) [] [] left0 now sent0 sent_now written0 written_now
  shows_event arrival now sent_now written_now s took sent_is written_is =
      record {
        taken = (left, s.taken, took.0, took.1);
        sent = s.sent;
        sent_is = sent_is ∙ s.sent_is;
        sent_all = s.sent_all;
        text = s.text;
        written = subst (λ (w : Option (List ℕ)). Appends written0 w s.text) (sym written_is)
            s.written;
        text_all = s.text_all;
      }

  -- nothing has changed
  pub shows_same : (now : Option (List Arrival)) (sent_now : Option (List (List ℕ)))
      → Shown room s0 turns [] [] [] left0 left sent0 sent written0 written → now ≡ left
      → sent_now ≡ sent
      → Shown room s0 turns [] [] [] left0 now sent0 sent_now written0 written
  shows_same now sent_now s left_is sent_is =
      record {
        taken = subst (λ (l : Option (List Arrival)). TakenFrom (given_in turns) left0 l)
            (sym left_is) s.taken;
        sent = s.sent;
        sent_is = sent_is ∙ s.sent_is;
        sent_all = s.sent_all;
        text = s.text;
        written = s.written;
        text_all = s.text_all;
      }
