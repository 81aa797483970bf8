-- Packages that users submit: the answer, and the state after it.
use Rattle.std.specs.Prelude.{ℕ, Bool, true, false, not, if◌then◌else◌, Option, Some, None, Result, Ok, Err}
use Rattle.gate_bytes.specs.Order.{first_failing}
use Rattle.gate_rules.specs.declared.Denial.TheVariants.{Decode}
use Rattle.gate_rules.specs.declared.PackageDenial.{PackageDenial}
use Rattle.gate_rules.specs.declared.PackageDenial.TheVariants.{NotChildWithParents}
use Rattle.gate_submission.specs.PackageOutcomes.{unjudged}
use Rattle.gate_package.specs.declared.Unfit.{Unfit}
use Rattle.gate_package.specs.declared.Unfit.TheVariants.{Undecodable, Denied as UnfitBy}
use Rattle.gate_package.specs.Packages.{Packaged, packaged_of}
use Rattle.gate_package.specs.Shapes.{members_of, shape_rules, text_rules}
use Rattle.gate_rpc.specs.declared.method.Method.{Method}
use Rattle.gate_rpc.specs.declared.method.Method.TheVariants.{SubmitPackage}
use Rattle.gate_rpc.specs.declared.request.PackageCall.{PackageCall}
use Rattle.gate_rpc.specs.declared.request.Request.{Request}
use Rattle.gate_rpc.specs.declared.fault.CallError.{CallError}
use Rattle.gate_rpc.specs.declared.fault.CallError.TheVariants.{ParseError, InvalidRequest, MethodNotFound, InvalidParams}
use Rattle.gate_rpc.specs.declared.error.RpcError.{RpcError}
use Rattle.gate_rpc.specs.declared.error.RpcError.TheVariants.{Denied, PackageDenied}
use Rattle.gate_rpc.specs.declared.result.RpcResult.{RpcResult}
use Rattle.gate_rpc.specs.declared.result.RpcResult.TheVariants.{Package}
use Rattle.gate_rpc.specs.Calls.{method_of}
use Rattle.gate_rpc.specs.Methods.{method_name}
use Rattle.gate_core.specs.World.{World, standing_of}

abbrev pub is_of_packages : Method → Bool
is_of_packages SubmitPackage = true
is_of_packages method = false

-- there is no such method where the operator doesn't take packages
abbrev pub lacks_method : World → Method → Bool
lacks_method w method = if is_of_packages method then not w.policy.packages else false

-- what a text asks for where the operator doesn't take packages: a method that there is not
abbrev pub served : World → Result Request CallError → Result Request CallError
served w (Ok request) = if lacks_method w (method_of request.command) then Err (MethodNotFound request.id (method_name (method_of request.command))) else Ok request
served w (Err ParseError) = Err ParseError
served w (Err InvalidRequest) = Err InvalidRequest
served w (Err (MethodNotFound id name)) = Err (MethodNotFound id name)
served w (Err (InvalidParams id method)) = if lacks_method w method then Err (MethodNotFound id (method_name method)) else Err (InvalidParams id method)

-- the answer, and pool and floor by what the package leaves
pub record Answered : Type 0 where
  pub answer : Result RpcResult RpcError
  pub world : World

abbrev pub unchanged : World → Result RpcResult RpcError → Answered
unchanged w answer = record { answer = answer; world = w }

abbrev pub error_of : Unfit → RpcError
error_of Undecodable = Denied Decode
error_of (UnfitBy denial) = PackageDenied denial

-- J2 is an error of the call, and J3 to J7 are its answer
abbrev pub answer_of : PackageDenial → Result RpcResult RpcError
answer_of NotChildWithParents = Err (PackageDenied NotChildWithParents)
answer_of denial = Ok (Package (unjudged denial))

abbrev pub left_by : World → Packaged → Answered
left_by w p = record { answer = Ok (Package p.outcome); world = record w { pool = p.entries; floor = p.floor } }

abbrev pub unless_denied : World → Option PackageDenial → Answered → Answered
unless_denied w (Some denial) fit = unchanged w (answer_of denial)
unless_denied w None fit = fit

abbrev pub unless_unread : World → Option Unfit → Answered → Answered
unless_unread w (Some unfit) fit = unchanged w (Err (error_of unfit))
unless_unread w None fit = fit

-- a package that is submitted at this second: A1 and J1 of each text in turn, J2 to J7, and then its members
abbrev pub packaged_by : World → ℕ → PackageCall → Answered
packaged_by w now call =
    unless_unread w (first_failing (text_rules call.max_burn call.members))
    (unless_denied w (first_failing (shape_rules w.chain w.policy (members_of call.members)))
    (left_by w (packaged_of call.max_rate (standing_of w) (members_of call.members) now w.budget)))
