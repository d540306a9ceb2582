-- A repeated key finds its entry.
use Rattle.std.proofs.Common.{◌≡◌, ℕ, ℤ, cond, List, Some, ap, ◌∙◌}
use Rattle.std.specs.Str.{bytes_eq}
use Rattle.lg_types.specs.declared.calls.Write.{Write}
use Rattle.lg_types.specs.declared.records.Entry.{Entry}
use Rattle.lg_types.specs.declared.records.KeyMark.{KeyMark}
use Rattle.lg_types.specs.declared.refusals.Refusal.TheVariants.{KeyInput}
use Rattle.lg_types.specs.Chain.{input_hash}
use Rattle.lg_types.specs.Known.{kept, date}
use Rattle.lg_views.specs.declared.decided.Written.TheVariants.{Refuses, Finds}
use Rattle.lg_views.specs.Writes.{found_if, written_by, written}
use Rattle.lg_views.proofs.TestAnswers.{same_bytes}

found-same : (mark : KeyMark) (given : List ℕ) (e : Entry) → mark.input_hash ≡ given → found_if (Some mark) given e ≡ Finds e
found-same mark given e h = ap (λ b. cond b (Finds e) (Refuses (KeyInput mark.key mark.input_hash given))) (ap (λ x. bytes_eq x given) h ∙ same_bytes given)

-- the same request again finds the entry that has the key
pub repeats : (g : List Entry) (key : List ℕ) (write : Write) (now : ℤ) (e : Entry) (mark : KeyMark) → kept g key ≡ Some e → e.mark ≡ Some mark → mark.input_hash ≡ input_hash write → written g (Some key) write now ≡ Finds e
repeats g key write now e mark k m h =
    ap (written_by g (Some key) write (date g now)) k
    ∙ ap (λ o. found_if o (input_hash write) e) m
    ∙ found-same mark (input_hash write) e h
