use Rattle.std.proofs.Common.{◌≡◌, arith, take, drop, IsTrue}
use Rattle.std.proofs.lemmas.Int.{ints}
use Rattle.lg_time.specs.Moment.{IsDate, IsTime, IsEnd}
use Rattle.lg_time.proofs.ReadLemmas.{places, at_places, never, same_some, as_some, refuted}
use Rattle.lg_time.proofs.read.moment_of.Goals as goal

pub returns-in_err-number-clause-only : goal.returns-in_err-number-clause-only
returns-in_err-number-clause-only c = λ m h.
    let p = places _ _ h in
    let d : IsDate c.split_at.result.0.now p.number = rw c.split_at.ensures.front p.date_is in
    never p.number (c.in_err-number.ensures.only p.number d)

pub returns-in_err-seconds-clause-only : goal.returns-in_err-seconds-clause-only
returns-in_err-seconds-clause-only c = λ m h.
    let p = places _ _ h in
    let t : IsTime c.split_at-2.result.0.now p.seconds = rw (c.split_at-2.ensures.front, c.split_at.ensures.back) p.time_is in
    never p.seconds (c.in_err-seconds.ensures.only p.seconds t)

pub returns-in_err-added-clause-only : goal.returns-in_err-added-clause-only
returns-in_err-added-clause-only c = λ m h.
    let p = places _ _ h in
    let t : IsEnd c.split_at-2.result.1.now p.added = rw (c.split_at-2.ensures.back, c.split_at.ensures.back) p.end_is in
    never p.added (c.in_err-added.ensures.only p.added t)

pub returns-then-is_moment-clause-value : goal.returns-then-is_moment-clause-value
returns-then-is_moment-clause-value c =
    let d : IsDate (take 10 c.args.bytes.now) c.in_ok-number.number = rw c.split_at.ensures.front at c.in_ok-number.ensures.value in
    let t : IsTime (take 9 (drop 10 c.args.bytes.now)) c.in_ok-seconds.seconds = rw (c.split_at-2.ensures.front, c.split_at.ensures.back) at c.in_ok-seconds.ensures.value in
    let e : IsEnd (drop 9 (drop 10 c.args.bytes.now)) c.in_ok-added.added = rw (c.split_at-2.ensures.back, c.split_at.ensures.back) at c.in_ok-added.ensures.value in
    let r = c.is_moment.ensures.0 c.if-is_moment.true in
    at_places _ _ _ _ _ d t e (omega (arith, ints)) (omega (arith, ints, r.0), omega (arith, ints, r.1))

pub returns-then-is_moment-clause-only : goal.returns-then-is_moment-clause-only
returns-then-is_moment-clause-only c = λ m h.
    let p = places _ _ h in
    let d : IsDate c.split_at.result.0.now p.number = rw c.split_at.ensures.front p.date_is in
    let t : IsTime c.split_at-2.result.0.now p.seconds = rw (c.split_at-2.ensures.front, c.split_at.ensures.back) p.time_is in
    let e : IsEnd c.split_at-2.result.1.now p.added = rw (c.split_at-2.ensures.back, c.split_at.ensures.back) p.end_is in
    let n = same_some _ _ (c.in_ok-number.ensures.only p.number d) in
    let s = same_some _ _ (c.in_ok-seconds.ensures.only p.seconds t) in
    let a = same_some _ _ (c.in_ok-added.ensures.only p.added e) in
    let v = p.value in
    as_some _ _ (omega (arith, ints))

pub returns-else-is_moment-clause-only : goal.returns-else-is_moment-clause-only
returns-else-is_moment-clause-only c = λ m h.
    let p = places _ _ h in
    let d : IsDate c.split_at.result.0.now p.number = rw c.split_at.ensures.front p.date_is in
    let t : IsTime c.split_at-2.result.0.now p.seconds = rw (c.split_at-2.ensures.front, c.split_at.ensures.back) p.time_is in
    let e : IsEnd c.split_at-2.result.1.now p.added = rw (c.split_at-2.ensures.back, c.split_at.ensures.back) p.end_is in
    let n = same_some _ _ (c.in_ok-number.ensures.only p.number d) in
    let s = same_some _ _ (c.in_ok-seconds.ensures.only p.seconds t) in
    let a = same_some _ _ (c.in_ok-added.ensures.only p.added e) in
    let v = p.value in
    let same : c.moment_at-moment.result ≡ m = omega (arith, ints) in
    let i : IsTrue c.is_moment.result = c.is_moment.ensures.1 (omega (arith, ints, p.in_range.0), omega (arith, ints, p.in_range.1)) in
    refuted i c.if-is_moment.false
