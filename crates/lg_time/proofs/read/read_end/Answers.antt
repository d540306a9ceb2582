use Rattle.std.proofs.Common.{arith}
use Rattle.std.proofs.lemmas.Int.{ints}
use Rattle.lg_time.specs.Moment.{IsFraction, IsZone}
use Rattle.lg_time.proofs.ReadLemmas.{end_front, never, same_some, as_some}
use Rattle.lg_time.proofs.read.read_end.Goals as goal

pub returns-then-text-zone_len-clause-only : goal.returns-then-text-zone_len-clause-only
returns-then-text-zone_len-clause-only c = λ added h.
    let p = end_front _ _ _ h (c.zone_len-zone_len.ensures.only h.fraction h.zone h.ahead h.parts h.zone_is) in
    absurd (omega (arith, p.0))

pub returns-in_err-microseconds-clause-only : goal.returns-in_err-microseconds-clause-only
returns-in_err-microseconds-clause-only c = λ added h.
    let p = end_front _ _ _ h (c.zone_len-zone_len.ensures.only h.fraction h.zone h.ahead h.parts h.zone_is) in
    let f : IsFraction c.split_at.result.0.now h.microseconds = rw c.split_at.ensures.front p.1 in
    never h.microseconds (c.in_err-microseconds.ensures.only h.microseconds f)

pub returns-in_err-ahead-clause-only : goal.returns-in_err-ahead-clause-only
returns-in_err-ahead-clause-only c = λ added h.
    let p = end_front _ _ _ h (c.zone_len-zone_len.ensures.only h.fraction h.zone h.ahead h.parts h.zone_is) in
    let f : IsZone c.split_at.result.1.now h.ahead = rw c.split_at.ensures.back p.2 in
    never h.ahead (c.in_err-ahead.ensures.only h.ahead f)

pub returns-clause-only : goal.returns-clause-only
returns-clause-only c = λ added h.
    let p = end_front _ _ _ h (c.zone_len-zone_len.ensures.only h.fraction h.zone h.ahead h.parts h.zone_is) in
    let f : IsFraction c.split_at.result.0.now h.microseconds = rw c.split_at.ensures.front p.1 in
    let z : IsZone c.split_at.result.1.now h.ahead = rw c.split_at.ensures.back p.2 in
    let m = same_some _ _ (c.in_ok-microseconds.ensures.only h.microseconds f) in
    let a = same_some _ _ (c.in_ok-ahead.ensures.only h.ahead z) in
    as_some _ _ (omega (arith, ints))
