use Rattle.lg_time.proofs.CalendarLemmas.{date_after-year, date_is_after}
use Rattle.lg_time.proofs.print.date_of.Goals as goal

pub returns-clause-year : goal.returns-clause-year
returns-clause-year c = (date_is_after c.from_days_since_min.result c.args.days c.requires c.from_days_since_min.ensures).0

pub returns-clause-month : goal.returns-clause-month
returns-clause-month c = (date_is_after c.from_days_since_min.result c.args.days c.requires c.from_days_since_min.ensures).1

pub returns-clause-day : goal.returns-clause-day
returns-clause-day c = (date_is_after c.from_days_since_min.result c.args.days c.requires c.from_days_since_min.ensures).2

pub returns-clause-year_in : goal.returns-clause-year_in
returns-clause-year_in c = date_after-year c.args.days c.requires
