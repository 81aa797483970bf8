-- Whether a user's list has a method, in one pass over the entries.
use Rattle.std.specs.Prelude.{ℕ, ◌&&◌, if◌then◌else◌, Bool, false, List, Option, Some, None}
use Rattle.std.specs.Str.{bytes_eq}
use Rattle.gate_rpc.specs.declared.entry.RpcEntry.{RpcEntry}
use Rattle.gate_rpc.specs.Lists.{is_among}

-- whether the list has the method after one more entry of the user, given whether it had it before, if there was a list
abbrev pub listed_after : List ℕ → Option Bool → Option (List (List ℕ)) → Option Bool
listed_after method None None = Some false
listed_after method None (Some words) = Some (is_among method words)
listed_after method (Some before) None = Some before
listed_after method (Some before) (Some words) = Some (before && is_among method words)

-- whether the user's list has the method after one more entry, which may be another user's
abbrev pub listed_with : List ℕ → List ℕ → Option Bool → RpcEntry → Option Bool
listed_with user method before entry = if bytes_eq entry.user user then listed_after method before entry.methods else before
