-- The messages of a connection, and how it ends (RFC 9112, sections 2, 6 and 9).
use Rattle.std.specs.Prelude.{◌≡◌, ℕ, ◌<◌, ◌≤◌, ◌⊎◌, false, true, Bool, MatchBool, List, [], ◌∷◌, ◌++◌, length, codes, Option, Some, None}
use Rattle.httparse.specs.Grammar.{RequestHead}
use Rattle.lg_heads.specs.Fields.{first_value, stated_length, is_coded, closes_after}
use Rattle.lg_heads.specs.Heads.{fields_of}
use Rattle.lg_heads.specs.Verdicts.{IsWhole, IsBad, IsLong, IsOpen}
use Rattle.lg_http.specs.declared.refusal.MessageRefusal.{MessageRefusal}
use Rattle.lg_http.specs.declared.refusal.MessageRefusal.TheVariants.{BadHead, LongHead, CodedBody, LongBody}

-- what a message asks: its method and target, the value of its first Idempotency-Key field, and its body
pub record Request : Type 0 where
  pub method : List ℕ
  pub target : List ℕ
  pub key : Option (List ℕ)
  pub body : List ℕ

-- a message: what it asks, and whether the connection closes behind it
pub record Message : Type 0 where
  pub request : Request
  pub closes : Bool

-- what a head and a body ask
abbrev pub request_of : RequestHead → List ℕ → Request
request_of head body = record {
  method = head.method;
  target = head.target;
  key = first_value (codes "idempotency-key") (fields_of head);
  body = body;
}

-- the message of a head and a body
abbrev pub message_of : RequestHead → List ℕ → Message
message_of head body = record { request = request_of head body; closes = closes_after head.minor (fields_of head) }

-- a body of so many bytes follows the head: it states this length, or none and the body is empty, and no transfer coding
pub record HasLength (head : RequestHead) (size : ℕ) : Type 0 where
  pub stated : stated_length (fields_of head) ≡ Some size
  pub plain : is_coded (fields_of head) ≡ false

-- a message stands at the front of the bytes, and the rest behind it: a head within the limits, and as many bytes as its
-- length says, which are no more than bodies of its method and target may have
pub record IsMessage (limit : List ℕ → List ℕ → ℕ) (bytes : List ℕ) (message : Message) (rest : List ℕ) : Type 0 where
  pub head : RequestHead
  pub body : List ℕ
  pub whole : IsWhole bytes head (body ++ rest)
  pub framed : HasLength head (length body)
  pub fits : length body ≤ limit head.method head.target
  pub message_is : message ≡ message_of head body

-- a whole head whose Content-Length is no whole number, or stands twice with two values
pub record HasBadLength (bytes : List ℕ) : Type 0 where
  pub head : RequestHead
  pub rest : List ℕ
  pub whole : IsWhole bytes head rest
  pub bad : stated_length (fields_of head) ≡ None

-- a whole head with a transfer coding, and with no bad length
pub record HasCodedBody (bytes : List ℕ) : Type 0 where
  pub head : RequestHead
  pub rest : List ℕ
  pub size : ℕ
  pub whole : IsWhole bytes head rest
  pub stated : stated_length (fields_of head) ≡ Some size
  pub coded : is_coded (fields_of head) ≡ true

-- a whole head, whose length is more than bodies of its method and target may have
pub record HasLongBody (limit : List ℕ → List ℕ → ℕ) (bytes : List ℕ) : Type 0 where
  pub head : RequestHead
  pub rest : List ℕ
  pub size : ℕ
  pub whole : IsWhole bytes head rest
  pub framed : HasLength head size
  pub long : limit head.method head.target < size

-- a whole head whose length is within the limit, and fewer bytes behind it
pub record LacksBody (limit : List ℕ → List ℕ → ℕ) (bytes : List ℕ) : Type 0 where
  pub head : RequestHead
  pub rest : List ℕ
  pub size : ℕ
  pub whole : IsWhole bytes head rest
  pub framed : HasLength head size
  pub fits : size ≤ limit head.method head.target
  pub lacks : length rest < size

-- the bytes begin with no message, whatever follows them, and this is why
abbrev pub IsRefused : (List ℕ → List ℕ → ℕ) → List ℕ → MessageRefusal → Type 0
IsRefused limit bytes BadHead = IsBad bytes ⊎ HasBadLength bytes
IsRefused limit bytes LongHead = IsLong bytes
IsRefused limit bytes CodedBody = HasCodedBody bytes
IsRefused limit bytes LongBody = HasLongBody limit bytes

-- the bytes end inside a message
abbrev pub EndsInside : (List ℕ → List ℕ → ℕ) → List ℕ → Type 0
EndsInside limit bytes = (IsOpen bytes × (0 < length bytes)) ⊎ LacksBody limit bytes

-- how the messages of a connection end: with the bytes, inside a message, with a message that is refused, or wherever
-- the connection was given up
pub data End : Type 0 where
  Closed : End
  Cut : End
  Refused : MessageRefusal → End
  Stopped : End

-- the bytes behind the last message end so
abbrev pub EndsAs : (List ℕ → List ℕ → ℕ) → List ℕ → End → Type 0
EndsAs limit bytes Closed = bytes ≡ []
EndsAs limit bytes Cut = EndsInside limit bytes
EndsAs limit bytes (Refused why) = IsRefused limit bytes why
EndsAs limit bytes Stopped = Unit {0}

-- the connection ends behind a message after which it closes, or is given up before the reply is written
abbrev pub IsLast : End → Type 0
IsLast Closed = Unit {0}
IsLast Cut = ⊥
IsLast (Refused why) = ⊥
IsLast Stopped = Unit {0}

-- the bytes are these messages one after another, up to one after which the connection closes, and end so
abbrev pub AreMessages : (List ℕ → List ℕ → ℕ) → List ℕ → List Message → End → Type 0
AreMessages limit bytes [] end = EndsAs limit bytes end
AreMessages limit bytes (message ∷ messages) end =
    (rest : List ℕ)
    × IsMessage limit bytes message rest
    × MatchBool message.closes ((messages ≡ []) × IsLast end) (AreMessages limit rest messages end)
