-- What some words say in some fields, by induction over the fields.
use Rattle.std.proofs.Common.{◌≡◌, ℕ, suc, ◌==◌, Bool, true, false, cond, List, [], ◌∷◌, length}
use Rattle.std.proofs.Common.{Option, Some, None, Result, Ok, Err, refl, sym, ap, ◌∙◌, subst, arith}
use Rattle.std.specs.List.{All}
use Rattle.std.specs.Result.{result_err}
use Rattle.std.proofs.lemmas.Bool.{eqb-true, eq-eqb}
use Rattle.std.proofs.lemmas.List.Elements.{All-nil, All-cons}
use Rattle.script_spec.specs.declared.TheConstants.{WORD_FAULT}
use Rattle.script_spec.specs.Fields.{Value, Form, AllFit}
use Rattle.script_spec.specs.Script.{first_value, later_values}
use Rattle.script_spec.specs.Grammar.{Spells, SpellEach}
use Rattle.script_spec.specs.Fault.{first_of, words_fault, counted_fault}
use Rattle.script_spec.specs.Reading.{◌>>=◌, word_value, field_at, values_at, counted}
use Rattle.script_laws.proofs.Words.{IsOneWord}
use Rattle.script_laws.proofs.Steps.{bind_ok, ok_same}
use Rattle.script_laws.proofs.Forms.{word_spells, word_spelled, formed, formed_same, word_plain}
use Rattle.script_laws.proofs.Forms.{word_fault-value}
use Rattle.script_spec.specs.Fault.{word_fault}

-- ---- from reading to the grammar

-- one field takes one word
pub field_ok : (form : Form) (words : List (List ℕ)) (x : Value × List (List ℕ))
    → field_at form words ≡ Ok x
    → (word : List ℕ) × (words ≡ word ∷ x.1) × (word_value form word ≡ Ok x.0)
unfolding field_at
field_ok form [] x h = cc
field_ok form (word ∷ words) x h =
    let value = bind_ok (word_value form word) _ x h in
    let pair : (value.0, words) ≡ x = ok_same value.2 in (
      word,
      ap (λ (y : Value × List (List ℕ)). word ∷ y.1) pair,
      value.1
          ∙ ap (λ (y : Value × List (List ℕ)). Ok y.0) pair,
    )

pub values_spell : (forms : List Form) (words : List (List ℕ)) (values : List Value)
    → length words ≡ length forms → values_at forms words ≡ Ok values → SpellEach forms values words
unfolding field_at
values_spell [] [] values size h = subst (λ vs. SpellEach [] vs []) (ok_same h) tt
values_spell [] (word ∷ words) values size h = absurd (omega arith)
values_spell (form ∷ forms) [] values size h = absurd (omega arith)
values_spell (form ∷ forms) (word ∷ words) values size h =
    let value = bind_ok (field_at form (word ∷ words)) _ values h in
    let field = field_ok form (word ∷ words) value.0 value.1 in
    let first : word ≡ field.0 = cc in
    let rest : words ≡ value.0.1 = cc in
    let others = bind_ok (values_at forms value.0.1) _ values value.2 in
    let each =
    values_spell forms words others.0 (omega arith) (ap (values_at forms) rest ∙ others.1) in
    subst (λ vs. SpellEach (form ∷ forms) vs (word ∷ words)) (ok_same others.2) (
      subst (λ w. Spells form value.0.0 w) (sym first)
          (word_spells form field.0 value.0.0 field.2),
      each,
    )

pub counted_ok : (count : ℕ) (words parts : List (List ℕ)) → counted count words ≡ Ok parts
    → (parts ≡ words) × (length words ≡ count)
counted_ok count words parts h = by_test (length words == count) refl h
  where
    by_test : (b : Bool) → (length words == count) ≡ b
        → cond {A = Result (List (List ℕ)) ℕ} b (Ok words) (Err WORD_FAULT) ≡ Ok parts
        → (parts ≡ words) × (length words ≡ count)
    by_test true e h = (sym (ok_same h), eqb-true (length words) count e)
    by_test false e h = cc

-- ---- from the grammar to reading

pub spell_length : (forms : List Form) (values : List Value) (words : List (List ℕ))
    → SpellEach forms values words → length words ≡ length forms
spell_length [] [] [] s = refl
spell_length (form ∷ forms) (value ∷ values) (word ∷ words) s =
    ap suc (spell_length forms values words s.1)
spell_length forms values words s = absurd s

pub field_again : (form : Form) (value : Value) (word : List ℕ) (words : List (List ℕ))
    → Spells form value word → field_at form (word ∷ words) ≡ Ok (value, words)
unfolding field_at
field_again form value word words s =
    ap (λ r. r >>= λ v. Ok (v, words)) (word_spelled form value word s)

pub values_spelled : (forms : List Form) (values : List Value) (words : List (List ℕ))
    → SpellEach forms values words → values_at forms words ≡ Ok values
values_spelled [] [] [] s = refl
values_spelled (form ∷ forms) (value ∷ values) (word ∷ words) s =
    ap (λ r. r >>= λ v. values_at forms v.1 >>= λ vs. Ok (v.0 ∷ vs))
    (field_again form value word words s.0)
    ∙ ap (λ r. r >>= λ vs. Ok (value ∷ vs)) (values_spelled forms values words s.1)
values_spelled forms values words s = absurd s

pub counted_again : (count : ℕ) (words : List (List ℕ)) → length words ≡ count
    → counted count words ≡ Ok words
counted_again count words e = rw (eq-eqb (length words) count e) refl

-- ---- what the values are

-- values that are spelled fit their fields
pub each_fits : (forms : List Form) (values : List Value) (words : List (List ℕ))
    → SpellEach forms values words → AllFit forms values
each_fits [] [] [] s = tt
each_fits (form ∷ forms) (value ∷ values) (word ∷ words) s =
    (s.0.fits, each_fits forms values words s.1)
each_fits forms values words s = absurd s

-- the values by what is in them, a field after the other
abbrev pub all_formed : List Form → List Value → List Value
all_formed [] values = []
all_formed (form ∷ forms) values =
    formed form (first_value values) ∷ all_formed forms (later_values values)

pub all_same : (forms : List Form) (values : List Value) → AllFit forms values
    → all_formed forms values ≡ values
all_same [] [] h = refl
all_same (form ∷ forms) (value ∷ values) h =
    ap (λ v. v ∷ all_formed forms values) (formed_same form value h.0)
    ∙ ap (λ vs. value ∷ vs) (all_same forms values h.1)
all_same forms values h = absurd h

-- no word of the values has a space
pub each_plain : (forms : List Form) (values : List Value) (words : List (List ℕ))
    → SpellEach forms values words → All IsOneWord words
each_plain [] [] [] s = All-nil IsOneWord
each_plain (form ∷ forms) (value ∷ values) (word ∷ words) s =
    All-cons IsOneWord word words (word_plain form value word s.0.text)
    (each_plain forms values words s.1)
each_plain forms values words s = absurd s

-- ---- faults

-- a value, and the words after it
abbrev with_rest : List (List ℕ) → Result Value ℕ → Result (Value × List (List ℕ)) ℕ
with_rest words r = r >>= λ v. Ok (v, words)

pub words_fault-values : (forms : List Form) (words : List (List ℕ)) → length words ≡ length forms
    → words_fault forms words ≡ result_err (values_at forms words)
unfolding field_at
words_fault-values [] [] size = refl
words_fault-values [] (word ∷ words) size = absurd (omega arith)
words_fault-values (form ∷ forms) [] size = absurd (omega arith)
words_fault-values (form ∷ forms) (word ∷ words) size =
    ap (λ o. first_of o (words_fault forms words)) (word_fault-value form word)
    ∙ ap (λ o. first_of (result_err (word_value form word)) o)
    (words_fault-values forms words (omega arith))
    ∙ first_word (word_value form word)
  where
    kept : (value : Value) (others : Result (List Value) ℕ)
        → result_err others ≡ result_err (others >>= λ vs. Ok (value ∷ vs))
    kept value (Ok values) = refl
    kept value (Err e) = refl

    first_word : (r : Result Value ℕ)
        → first_of (result_err r) (result_err (values_at forms words))
        ≡ result_err (with_rest words r >>= λ v. values_at forms v.1 >>= λ vs. Ok (v.0 ∷ vs))
    first_word (Ok value) = kept value (values_at forms words)
    first_word (Err e) = refl

-- words without a fault are as many as the fields
pub size_from_fault : (forms : List Form) (words : List (List ℕ)) → words_fault forms words ≡ None
    → length words ≡ length forms
size_from_fault [] [] h = refl
size_from_fault [] (word ∷ words) h = cc
size_from_fault (form ∷ forms) [] h = cc
size_from_fault (form ∷ forms) (word ∷ words) h =
    ap suc (size_from_fault forms words (after (word_fault form word) (words_fault forms words) h))
  where
    after : (o others : Option ℕ) → first_of o others ≡ None → others ≡ None
    after None others h = h
    after (Some reason) others h = cc

-- as many words as there have to be, and then what they say
pub counted_fault-values : {B : Type 0} (forms : List Form) (words : List (List ℕ))
    (made : List Value → B)
    → counted_fault forms words
    ≡ result_err
    (counted (length forms) words >>= λ parts. values_at forms parts >>= λ values. Ok (made values))
counted_fault-values forms words made = by_test (length words == length forms) refl
  where
    kept : (r : Result (List Value) ℕ)
        → result_err r ≡ result_err (r >>= λ values. Ok (made values))
    kept (Ok values) = refl
    kept (Err e) = refl

    by_test : (b : Bool) → (length words == length forms) ≡ b
        → cond b (words_fault forms words) (Some WORD_FAULT)
        ≡ result_err
        (cond {A = Result (List (List ℕ)) ℕ} b (Ok words) (Err WORD_FAULT) >>= λ parts.
        values_at forms parts >>= λ values. Ok (made values))
    by_test true e =
        words_fault-values forms words (eqb-true (length words) (length forms) e)
        ∙ kept (values_at forms words)
    by_test false e = refl
