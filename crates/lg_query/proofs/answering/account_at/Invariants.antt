use Rattle.lg_query.proofs.answering.account_at.Given as goal

abbrev pub ghosts-content_of : goal.ghosts-content_of
ghosts-content_of g a = record { name = a.blank.name; parts = a.blank.parts }
