-- What the name of a target of metadata is read as.
use Rattle.lg_types.specs.declared.records.Target.{Target}
use Rattle.lg_readings.specs.Answers.{Answer}
use Rattle.lg_readings.specs.Requests.{AccountTarget, TransactionTarget}
use Rattle.lg_routes.specs.declared.names.TargetName.{TargetName}
use Rattle.lg_routes.specs.declared.names.TargetName.TheVariants.{Account, Transaction}

abbrev pub TargetNamed : TargetName → Answer Target → Type 0
TargetNamed (Account address) = AccountTarget address.now
TargetNamed (Transaction id) = TransactionTarget id.now
