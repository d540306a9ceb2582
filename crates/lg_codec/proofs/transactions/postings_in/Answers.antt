use Rattle.std.proofs.Common.{◌≡◌, ◌+◌, List, [], ◌∷◌, ◌++◌, length, drop, sym, subst, length-append, arith}
use Rattle.lg_types.specs.declared.records.Posting.{Posting}
use Rattle.lg_codec.specs.PathParts.{base_path}
use Rattle.lg_codec.proofs.Onward.{PostingsGoOn, postings_more, postings_stop, postings_end}
use Rattle.lg_codec.proofs.transactions.postings_in.Goals as goal

pub returns-in_err-posting_of : goal.returns-in_err-posting_of
returns-in_err-posting_of c =
    postings_stop (base_path c.args.base) c.loop-place.postings c.args.items.now c.loop-place.place c.index-items-place.result _ _
    c.loop-place.invariant.1 (omega arith) c.index-items-place.is c.from_residual.ensures.1 (rw (sym c.loop-place.invariant.0) at c.in_err-posting_of.ensures)

pub loop-place-preserved : goal.loop-place-preserved
loop-place-preserved c =
    let path = base_path c.args.base in
    let all = c.args.items.now in
    let i = c.loop-place.place in
    let p = c.in_ok-posting_of.field-0 in
    subst (λ (ps : List Posting). (length ps ≡ i + 1) × PostingsGoOn path ps (drop (i + 1) all) all) (sym c.in_ok-push.ensures.ok) (
      let a = c.loop-place.invariant.0 in omega (arith, length-append c.loop-place.postings (p ∷ [])),
      postings_more path c.loop-place.postings all i c.index-items-place.result p c.loop-place.invariant.1 (omega arith) c.index-items-place.is
          (rw (sym c.loop-place.invariant.0) at c.in_ok-posting_of.ensures).answers,
    )

pub returns : goal.returns
returns c = record { answers = postings_end (base_path c.args.base) c.loop-place.postings c.args.items.now c.loop-place.place c.loop-place.invariant.1 (omega arith) }
