-- A line of a piece, and then the bytes that are left of it.
use Rattle.std.proofs.Common.{◌≡◌, ◌++◌, ◌∷◌, [], ℕ, List, Option, Bool, ap, subst, sym, ◌∙◌}
use Rattle.std.proofs.lemmas.List.{append_assoc}
use Rattle.ngc_events.specs.declared.event.EventLine.{EventLine}
use Rattle.ngc_events.specs.Arriving.{Arriving, Begins, TakesOne}
use Rattle.ngc_events.proofs.ArrivalLaws.{arrived_begins, longer_begins}
use Rattle.ngc_machine_model.specs.State.{Job}
use Rattle.ngc_run_log.specs.declared.live_form.LiveForm.{LiveForm}
use Rattle.ngc_run_log.specs.Living.{IsBrokenLive, IsCutRun}

-- a text with a piece begins with the line that the piece completes
line_begins : (text piece : List ℕ) (lines : List EventLine) (line : EventLine) (rest : List ℕ) (new : Arriving) →
    TakesOne text piece lines line rest new → Begins (text ++ piece) (lines ++ line ∷ [])
line_begins text piece lines line rest new one =
    let T : List ℕ → Type 0 = λ l. Begins l (lines ++ line ∷ []) in
    subst T (append_assoc text one.front rest ∙ ap (λ l. text ++ l) (sym one.splits))
    (longer_begins (text ++ one.front) rest (lines ++ line ∷ []) (arrived_begins (text ++ one.front) (lines ++ line ∷ []) new one.arrived))

pub line_broken : (form : LiveForm) (feeds fed : Bool) (job at : Job) (text piece : List ℕ) (lines : List EventLine) (line : EventLine) (rest : List ℕ) (new : Arriving)
    (first now : Option (List ℕ)) → TakesOne text piece lines line rest new → feeds ≡ fed → job ≡ at → IsCutRun form fed at (lines ++ line ∷ []) first now →
    IsBrokenLive form feeds job (text ++ piece) first now
line_broken form feeds fed job at text piece lines line rest new first now one fed_same job_same cut = record {
  lines = lines ++ line ∷ [];
  begins = line_begins text piece lines line rest new one;
  cut = subst (λ b. IsCutRun form b job (lines ++ line ∷ []) first now) (sym fed_same)
      (subst (λ (j : Job). IsCutRun form fed j (lines ++ line ∷ []) first now) (sym job_same) cut);
}
