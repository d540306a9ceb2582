-- What bytes that begin with a head come to. The first prefix without a whole head before its last byte decides: it
-- makes the head whole, passes a limit, or can't become a head whatever follows.
use Rattle.std.specs.Prelude.{◌≡◌, ℕ, ◌≤◌, List, [], ◌∷◌, ◌++◌, length}
use Rattle.httparse.specs.Grammar.{RequestHead, print_request, ReadsRequest, HasNoRequest, NeverHasRequest, MayBecomeRequest}
use Rattle.lg_heads.specs.Lines.{IsWithinLimits, PassesLimits}

-- a head within the limits stands at the front, and the rest behind it
pub record IsWhole (bytes : List ℕ) (h : RequestHead) (rest : List ℕ) : Type 0 where
  pub reads : ReadsRequest bytes h rest
  pub short : length (print_request h) ≤ 16384
  pub few : length h.fields ≤ 64

-- some prefix within the limits is the front of no head, whatever follows it
pub record IsBad (bytes : List ℕ) : Type 0 where
  pub front : List ℕ
  pub rest : List ℕ
  pub bytes_are : bytes ≡ front ++ rest
  pub within : IsWithinLimits front
  pub never : NeverHasRequest front

-- some prefix within the limits may still become a head and has none yet, and passes a limit with the next byte
pub record IsLong (bytes : List ℕ) : Type 0 where
  pub front : List ℕ
  pub byte : ℕ
  pub rest : List ℕ
  pub bytes_are : bytes ≡ front ++ (byte ∷ rest)
  pub within : IsWithinLimits front
  pub past : PassesLimits (front ++ (byte ∷ []))
  pub none : HasNoRequest front
  pub may : MayBecomeRequest front

-- no limit is passed, there is no whole head yet, and more bytes may make one
pub record IsOpen (bytes : List ℕ) : Type 0 where
  pub within : IsWithinLimits bytes
  pub none : HasNoRequest bytes
  pub may : MayBecomeRequest bytes

-- more bytes are wanted: no limit is passed, and there is no whole head yet
pub record WantsMore (bytes : List ℕ) : Type 0 where
  pub within : IsWithinLimits bytes
  pub none : HasNoRequest bytes
