-- The answer to a text that is no request.
use Rattle.std.specs.Prelude.{ℕ, List, Option, Some, None}
use Rattle.gate_rpc.specs.declared.id.Id.TheVariants.{Null}
use Rattle.gate_rpc.specs.declared.fault.CallError.{CallError}
use Rattle.gate_rpc.specs.declared.fault.CallError.TheVariants.{ParseError, InvalidRequest, MethodNotFound, InvalidParams}
use Rattle.gate_rpc.specs.declared.error.RpcError.TheVariants as errors
use Rattle.gate_rpc.specs.declared.reply.RpcReply.{RpcReply}
use Rattle.gate_rpc.specs.declared.reply.RpcReply.TheVariants.{Failure}
use Rattle.gate_rpc.specs.Methods.{method_name}

-- the name of the method, if one was read
abbrev pub called_name : CallError → Option (List ℕ)
called_name ParseError = None
called_name InvalidRequest = None
called_name (MethodNotFound id name) = Some name
called_name (InvalidParams id method) = Some (method_name method)

abbrev pub reply_of : CallError → RpcReply
reply_of ParseError = Failure Null errors.ParseError
reply_of InvalidRequest = Failure Null errors.InvalidRequest
reply_of (MethodNotFound id name) = Failure id errors.MethodNotFound
reply_of (InvalidParams id method) = Failure id errors.InvalidParams
