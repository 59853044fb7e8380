-- One turn of the loop over the calls, and its end
use Rattle.std.proofs.Common.{◌≡◌, ℕ, zero, suc, ◌+◌, ◌<◌, ◌≤◌, List, [], ◌∷◌, ◌++◌, length, get_or, drop, sym, refl, ap, ◌∙◌, append_assoc, append-nil, add-one, arith, drop-cons}
use Rattle.model.specs.declared.call.Call.{Call}
use Rattle.model.specs.declared.answer.Answer.{Answer}
use Rattle.model.specs.Bench.{Bench, State}
use Rattle.model.specs.Steps.{taken, events, final}
use Rattle.history.specs.Runs.{answers_of, together}

next_call : {C : Type 0} (cs : List C) (i : ℕ) (x : C) → i < length cs → x ≡ get_or cs i x → drop i cs ≡ x ∷ drop (i + 1) cs
next_call cs i x h e = rw add-one (drop-cons cs i x h ∙ ap (λ t. t ∷ drop (suc i) cs) (sym e))

past : {C : Type 0} (cs : List C) (i : ℕ) → length cs ≤ i → drop i cs ≡ []
past [] zero h = refl
past [] (suc i) h = refl
past (c ∷ cs) zero h = absurd (omega arith)
past (c ∷ cs) (suc i) h = past cs i (omega arith)

module _ {V P R : Type 0} (k : Bench V P R) where
  -- the answers that some calls get
  abbrev pub answered : State V P R → List (Call V P) → List (Answer V)
  answered s cs = answers_of (events k s cs)

  module _ (calls : List (Call V P)) (i : ℕ) where
    pub turn_state : (x : Call V P) (s s' t : State V P R) → i < length calls → x ≡ get_or calls i x → s' ≡ (taken k s x).0 → final k s (drop i calls) ≡ t → final k s' (drop (i + 1) calls) ≡ t
    turn_state x s s' t h e f inv =
        ap (λ u. final k u (drop (i + 1) calls)) f ∙ sym (ap (final k s) (next_call calls i x h e)) ∙ inv

    pub turn_answers : (x : Call V P) (s s' : State V P R) (a : Answer V) (said said' all : List (Answer V)) → i < length calls → x ≡ get_or calls i x → s' ≡ (taken k s x).0 → a ≡ (taken k s x).1 → said' ≡ said ++ a ∷ []
        → said ++ answered s (drop i calls) ≡ all → said' ++ answered s' (drop (i + 1) calls) ≡ all
    turn_answers x s s' a said said' all h e f m n inv =
        let d = ap (answered s) (next_call calls i x h e) in
        let w = append_assoc said (a ∷ []) (answered s' (drop (i + 1) calls)) in
        let u = ap (λ b. b ∷ answered s' (drop (i + 1) calls)) m in
        let v = ap (λ r. (taken k s x).1 ∷ answered r (drop (i + 1) calls)) f in
        cc

    pub end_state : (s t : State V P R) → length calls ≤ i → final k s (drop i calls) ≡ t → s ≡ t
    end_state s t h inv = sym (ap (final k s) (past calls i h)) ∙ inv

    pub end_answers : (s : State V P R) (said all : List (Answer V)) → length calls ≤ i → said ++ answered s (drop i calls) ≡ all → said ≡ all
    end_answers s said all h inv = sym (append-nil said) ∙ sym (ap (λ cs. said ++ answered s cs) (past calls i h)) ∙ inv

  pub together_events : (s : State V P R) (cs : List (Call V P)) → together cs (answered s cs) ≡ events k s cs
  together_events s [] = refl
  together_events s (c ∷ cs) = ap (λ es. (c, (taken k s c).1) ∷ es) (together_events (taken k s c).0 cs)
