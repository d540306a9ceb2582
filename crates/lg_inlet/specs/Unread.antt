-- What an inbox holds.
use Rattle.std.specs.Prelude.{ℕ, List, drop}
use Rattle.lg_inlet.specs.declared.inbox.Inbox.{Inbox}

-- the bytes that came and aren't used yet
abbrev pub unread : Inbox → List ℕ
unread inbox = drop inbox.start inbox.bytes.items

-- how many more bytes may be taken from the source
abbrev pub allowance_of : Inbox → ℕ
allowance_of inbox = inbox.allowance
