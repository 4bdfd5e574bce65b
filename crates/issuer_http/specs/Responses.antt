-- Replies as HTTP responses (RFC 9112). This project's profile.
use Rattle.std.specs.Prelude.{ℕ, Bool, List, ◌++◌, length, Option, Some, None}
use Rattle.http_heads.specs.Responses.{response_head}
use Rattle.http_heads.specs.declared.responses.Content.{Content}
use Rattle.http_heads.specs.declared.responses.Response.{Response}
use Rattle.register_words.specs.Refusals.{reply_status_code, reply_words}
use Rattle.register_words.specs.declared.reply.Allowed.{Allowed}
use Rattle.register_words.specs.declared.reply.Kind.{Kind}
use Rattle.register_words.specs.declared.reply.Refusal.{Refusal}
use Rattle.register_words.specs.declared.reply.Refusal.TheVariants as refusals
use Rattle.register_words.specs.declared.reply.Reply.{Reply}
use Rattle.register_words.specs.declared.reply.Reply.TheVariants as replies

-- The content that a kind of text is.
abbrev pub content_kind : Kind → Content
content_kind Kind.Json = Content.Json
content_kind Kind.Csv = Content.Csv

-- The content that the text of a reply is: a refusal is plain words.
abbrev pub content_in : Reply → Content
content_in (replies.Text code kind text) = content_kind kind
content_in (replies.Words refusal) = Content.Plain

-- If the request's route doesn't have its method, the methods of the route.
abbrev pub methods_in : Refusal → Option Allowed
methods_in (refusals.Method allowed) = Some allowed
methods_in refusals.TooLong = None
methods_in refusals.NoRoute = None
methods_in refusals.Path = None
methods_in refusals.IssuerUnknown = None
methods_in refusals.NumberTaken = None
methods_in (refusals.NumberAhead number) = None
methods_in (refusals.Malformed fault) = None
methods_in refusals.LedgerFull = None
methods_in refusals.NotKept = None
methods_in refusals.LeiUnknown = None
methods_in refusals.NothingPublished = None
methods_in refusals.PublicationUnknown = None
methods_in refusals.NoBase = None
methods_in refusals.NoMemory = None
methods_in refusals.KeeperFault = None
methods_in refusals.Head = None
methods_in refusals.HeadTooLong = None
methods_in refusals.LengthRequired = None

-- The same for a reply.
abbrev pub methods_of : Reply → Option Allowed
methods_of (replies.Text code kind text) = None
methods_of (replies.Words refusal) = methods_in refusal

-- What the head of the response to a reply says, including whether the connection is closed after it.
abbrev pub response_to : Bool → Reply → Response
response_to last reply = record {
  code = reply_status_code reply;
  content = content_in reply;
  size = length (reply_words reply);
  allow = methods_of reply;
  closes = last;
}

-- The bytes of a response: its head, and the text of the reply.
unfoldable pub response_bytes : Bool → Reply → List ℕ
response_bytes last reply = response_head (response_to last reply) ++ reply_words reply
