use Rattle.std.proofs.Common.{◌+◌, drop, codes, sym, subst, arith}
use Rattle.lg_readings.specs.Bodies.{AccountMetaOf}
use Rattle.lg_codec.specs.PathParts.{base_path}
use Rattle.lg_readings.specs.Paths.{below}
use Rattle.lg_codec.proofs.Onward.{AccountsGoOn, accounts_more, accounts_stop, accounts_end}
use Rattle.lg_codec.proofs.metadata.accounts_in.Goals as goal

pub returns-in_err-address : goal.returns-in_err-address
returns-in_err-address c =
    accounts_stop (below (base_path c.args.base) (codes "accountMetadata")) c.loop-member.accounts c.args.members.now c.loop-member.member-index
    c.member-item.result _ _ c.loop-member.invariant (omega arith) c.member-item.is c.from_residual.ensures.1 c.in_err-address.ensures

pub loop-member-preserved : goal.loop-member-preserved
loop-member-preserved c =
    let path = below (base_path c.args.base) (codes "accountMetadata") in
    let all = c.args.members.now in
    let i = c.loop-member.member-index in
    subst (λ (accounts : AccountMetaOf). AccountsGoOn path accounts (drop (i + 1) all) all) (sym c.in_ok-put.ensures.ok)
    (accounts_more path c.loop-member.accounts all i c.member-item.result c.in_ok-address.address c.in_ok-address.meta
    c.loop-member.invariant (omega arith) c.member-item.is c.in_ok-address.ensures.answers)

pub returns : goal.returns
returns c = record { answers = accounts_end (below (base_path c.args.base) (codes "accountMetadata")) c.loop-member.accounts c.args.members.now c.loop-member.member-index c.loop-member.invariant (omega arith) }
