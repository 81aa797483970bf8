-- Replies that are kept.
use Rattle.std.specs.Prelude.{◌≡◌}
use Rattle.gate_message.specs.declared.recording.Replies.{Replies}

-- receipt and entry say what the reply says
abbrev pub AreCopies : Replies → Type 0
AreCopies r = (r.receipt ≡ r.reply) × (r.entry ≡ r.reply)
