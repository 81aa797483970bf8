-- Calls by RPC.
use Rattle.std.specs.Prelude.{ℕ, List, Option, Some, Result, Ok, Err}
use Rattle.gate_rpc.specs.declared.request.Request.{Request}
use Rattle.gate_rpc.specs.declared.fault.CallError.{CallError}
use Rattle.gate_rpc.specs.Calls.{method_of}
use Rattle.gate_rpc.specs.Faults.{called_name}
use Rattle.gate_rpc.specs.Methods.{method_name}

-- the name of the user, the second of the call, and its JSON
pub record UserCall : Type 0 where
  pub user : List ℕ
  pub time : ℕ
  pub json : List ℕ

abbrev pub called : List ℕ → ℕ → List ℕ → UserCall
called user time json = record { user = user; time = time; json = json }

-- the name of the method that is called, if the text was read that far
abbrev pub name_called : Result Request CallError → Option (List ℕ)
name_called (Ok request) = Some (method_name (method_of request.command))
name_called (Err error) = called_name error
