-- Texts on a connection (RFC 9112, sections 4 to 6): of a reply, and of a refusal.
use Rattle.std.specs.Prelude.{ℕ, ◌==◌, Bool, true, if◌then◌else◌, List, [], ◌∷◌, ◌++◌, length, codes, decimal, Option, Some, None}
use Rattle.std.specs.List.{concat}
use Rattle.lg_http.specs.declared.media_type.MediaType.{MediaType}
use Rattle.lg_http.specs.declared.media_type.MediaType.TheVariants.{Json, OctetStream}
use Rattle.lg_http.specs.declared.reply_head.ReplyHead.{ReplyHead}
use Rattle.lg_http.specs.declared.refusal.MessageRefusal.{MessageRefusal}
use Rattle.lg_http.specs.declared.refusal.MessageRefusal.TheVariants.{BadHead, LongHead, CodedBody, LongBody}

-- the reason phrase of a status (RFC 9110, section 15); none for a status that no reply has
unfoldable pub phrase_of : ℕ → List ℕ
phrase_of status =
    (if status == 200 then codes "OK"
    else (if status == 201 then codes "Created"
    else (if status == 204 then codes "No Content"
    else (if status == 400 then codes "Bad Request"
    else (if status == 404 then codes "Not Found"
    else (if status == 405 then codes "Method Not Allowed"
    else (if status == 409 then codes "Conflict"
    else (if status == 413 then codes "Payload Too Large"
    else (if status == 431 then codes "Request Header Fields Too Large"
    else (if status == 501 then codes "Not Implemented"
    else (if status == 503 then codes "Service Unavailable"
    else [])))))))))))

-- the name of a media type (RFC 9110, section 8.3)
abbrev pub media_text : MediaType → List ℕ
media_text Json = codes "application/json"
media_text OctetStream = codes "application/octet-stream"

-- the end of a line: CR LF
abbrev pub line_end : List ℕ
line_end = 13 ∷ 10 ∷ []

-- the status line
abbrev pub status_line : ℕ → List ℕ
status_line status = concat (codes "HTTP/1.1 " ∷ decimal status ∷ codes " " ∷ phrase_of status ∷ line_end ∷ [])

-- the fields of a body of this type and length
abbrev pub content_lines : MediaType → ℕ → List ℕ
content_lines media size =
    concat (codes "Content-Type: " ∷ media_text media ∷ line_end ∷ codes "Content-Length: " ∷ decimal size ∷ line_end ∷ [])

-- the fields of a reply's body, where it has one
abbrev pub body_lines : Option MediaType → ℕ → List ℕ
body_lines None size = []
body_lines (Some media) size = content_lines media size

-- a reply's body, where it has one
abbrev pub body_text : Option MediaType → List ℕ → List ℕ
body_text None body = []
body_text (Some media) body = body

-- that the reply is the first one of its key, given again
abbrev pub hit_line : Bool → List ℕ
hit_line hit = (if hit then codes "Idempotency-Hit: true" ++ line_end else [])

-- how many events the reply knows of, how many of them it added, and whether it is given again
abbrev pub count_lines : ReplyHead → List ℕ
count_lines head =
    concat (codes "Ledger-Front: " ∷ decimal head.front ∷ line_end ∷ codes "Ledger-Events: " ∷ decimal head.events ∷ line_end ∷ hit_line head.hit ∷ [])

-- that the connection closes, and the empty line
abbrev pub last_lines : Bool → List ℕ
last_lines closes = (if closes then codes "Connection: close" ++ (line_end ++ line_end) else line_end)

-- a reply: its head with the exact length of its body, and the body
abbrev pub http_text : Bool → ReplyHead → List ℕ → List ℕ
http_text closes head body =
    concat (status_line head.status ∷ body_lines head.media (length body) ∷ count_lines head ∷ last_lines closes ∷ body_text head.media body ∷ [])

-- the status of a refusal
abbrev pub refusal_status : MessageRefusal → ℕ
refusal_status BadHead = 400
refusal_status LongHead = 431
refusal_status CodedBody = 501
refusal_status LongBody = 413

-- what a refusal says
abbrev pub refusal_message : MessageRefusal → List ℕ
refusal_message BadHead = codes "head"
refusal_message LongHead = codes "head"
refusal_message CodedBody = codes "transfer coding"
refusal_message LongBody = codes "length"

-- the body of a refusal
abbrev pub refusal_body : MessageRefusal → List ℕ
refusal_body why =
    concat (codes "{\"errorCode\":\"VALIDATION\",\"errorMessage\":\"" ∷ refusal_message why ∷ codes "\"}" ∷ [])

-- a refusal: it has no counts, and the connection closes
abbrev pub refusal_text : MessageRefusal → List ℕ
refusal_text why =
    concat (status_line (refusal_status why) ∷ content_lines Json (length (refusal_body why)) ∷ last_lines true ∷ refusal_body why ∷ [])
