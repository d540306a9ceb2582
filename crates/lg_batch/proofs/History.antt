-- A history of one thread, line by line.
use Rattle.std.proofs.Common.{◌≡◌, ℕ, ◌+◌, List, [], ◌∷◌, ◌++◌, length, take, drop, map, refl, sym, ap, subst, ◌∙◌, append_assoc, arith, length-append}
use Rattle.std.proofs.Math.Seq.{take-append_seam, drop-append_seam}
use Rattle.std.proofs.lemmas.List.{append-nil}
use Rattle.lg_store.specs.Answering.{Answers}
use Rattle.lg_types.specs.Lists.{IsPrefix}
use Rattle.lg_types.specs.Log.{first_events}
use Rattle.lg_types.specs.declared.records.Event.{Event}
use Rattle.lg_views.specs.History.{AloneFrom, IsAnswerTo}
use Rattle.lg_views.specs.declared.answers.Answer.{Answer}
use Rattle.lg_views.specs.declared.lines.ScriptLine.{ScriptLine}
use Rattle.lg_batch.specs.Runs.{built_line, AreAnswered}

-- whatever answers the lines that are left, from these events on, has answered all lines from the first event on
pub record Continues (lines : List ScriptLine) (events : List Event) (left : List ScriptLine) (answers : List Answer) : Type 0 where
  pub first : IsPrefix first_events events
  pub on : (more : List Event) (others : List Answer) → AloneFrom (events ++ more) (length events) (map built_line left) others → AloneFrom (events ++ more) 1 (map built_line lines) (answers ++ others)

-- the events of an answer stand behind those before it
owned_is : (events own more : List Event) → take (length own) (drop (length events) (events ++ (own ++ more))) ≡ own
owned_is events own more = ap (take (length own)) (drop-append_seam events (own ++ more)) ∙ take-append_seam own more

-- the answer of a line, in the whole list of events
here : (events own more : List Event) (l : ScriptLine) (left : List ScriptLine) (others : List Answer) (a : Answer)
    → a.front ≡ length events → a.events ≡ length own → IsAnswerTo events l.call l.moment a.reply own
    → AloneFrom ((events ++ own) ++ more) (length (events ++ own)) left others
    → AloneFrom (events ++ (own ++ more)) (length events) (l ∷ left) (a ∷ others)
here events own more l left others a front count answers h = (
  front,
  rw (front, count) (omega (arith, length-append events (own ++ more), length-append own more)),
  rw (front, count, take-append_seam events (own ++ more), owned_is events own more) answers,
  subst (λ (n : ℕ). AloneFrom (events ++ (own ++ more)) n left others) (length-append events own ∙ ap (λ (n : ℕ). n + length own) (sym front) ∙ ap (λ (n : ℕ). a.front + n) (sym count))
      (subst (λ (all : List Event). AloneFrom all (length (events ++ own)) left others) (append_assoc events own more) h),
)

-- one more line is answered
grown : (lines left : List ScriptLine) (events : List Event) (l : ScriptLine) (answers : List Answer) (a : Answer) (own : List Event)
    → Continues lines events (l ∷ left) answers
    → a.front ≡ length events → a.events ≡ length own → IsAnswerTo events (built_line l).call l.moment a.reply own
    → Continues lines (events ++ own) left (answers ++ a ∷ [])
grown lines left events l answers a own c front count reply = record {
  first = (c.first.0 ++ own, ap (λ (all : List Event). all ++ own) c.first.1 ∙ append_assoc first_events c.first.0 own);
  on = λ more others h.
      subst (λ (all : List Event). AloneFrom all 1 (map built_line lines) ((answers ++ a ∷ []) ++ others)) (sym (append_assoc events own more))
      (subst (λ (given : List Answer). AloneFrom (events ++ (own ++ more)) 1 (map built_line lines) given) (sym (append_assoc answers (a ∷ []) others))
      (c.on (own ++ more) (a ∷ others) (here events own more (built_line l) (map built_line left) others a front count reply h)));
}

-- a step of the loop
pub step : (lines left : List ScriptLine) (events new : List Event) (l : ScriptLine) (answers : List Answer) (a : Answer)
    → Continues lines events (l ∷ left) answers → Answers events l.call l.moment a new → Continues lines new left (answers ++ a ∷ [])
step lines left events new l answers a c h =
    subst (λ (all : List Event). Continues lines all left (answers ++ a ∷ [])) (sym h.added) (grown lines left events l answers a h.own c h.front h.count h.reply)

-- before the first line
pub start : (lines : List ScriptLine) (events : List Event) → events ≡ first_events → Continues lines events lines []
start lines events e = subst (λ (all : List Event). Continues lines all lines []) (sym e) (record {
  first = ([], refl);
  on = λ more others h. h;
})

-- after the last line
pub finish : (lines : List ScriptLine) (events : List Event) (answers : List Answer) → Continues lines events [] answers → AreAnswered events lines answers
finish lines events answers c = record {
  first = c.first;
  «from» = subst (λ (all : List Event). AloneFrom all 1 (map built_line lines) answers) (append-nil events)
      (subst (λ (given : List Answer). AloneFrom (events ++ []) 1 (map built_line lines) given) (append-nil answers) (c.on [] [] (sym (ap length (append-nil events)))));
}
