-- The names of the methods.
use Rattle.std.specs.Prelude.{ℕ, if◌then◌else◌, List, codes, Option, Some, None}
use Rattle.std.specs.Str.{bytes_eq}
use Rattle.gate_rpc.specs.declared.method.Method.{Method}
use Rattle.gate_rpc.specs.declared.method.Method.TheVariants.{SendRawTransaction, TestMempoolAccept, GetRawMempool, GetMempoolEntry, GetMempoolAncestors, GetMempoolDescendants, GetMempoolInfo, GetRawTransaction, GetTxSpendingPrevout, SubmitPackage}

abbrev pub method_name : Method → List ℕ
method_name SendRawTransaction = codes "sendrawtransaction"
method_name TestMempoolAccept = codes "testmempoolaccept"
method_name GetRawMempool = codes "getrawmempool"
method_name GetMempoolEntry = codes "getmempoolentry"
method_name GetMempoolAncestors = codes "getmempoolancestors"
method_name GetMempoolDescendants = codes "getmempooldescendants"
method_name GetMempoolInfo = codes "getmempoolinfo"
method_name GetRawTransaction = codes "getrawtransaction"
method_name GetTxSpendingPrevout = codes "gettxspendingprevout"
method_name SubmitPackage = codes "submitpackage"

-- the method of a name
abbrev pub method_named : List ℕ → Option Method
method_named name =
    if bytes_eq name (codes "sendrawtransaction") then Some SendRawTransaction
    else if bytes_eq name (codes "testmempoolaccept") then Some TestMempoolAccept
    else if bytes_eq name (codes "getrawmempool") then Some GetRawMempool
    else if bytes_eq name (codes "getmempoolentry") then Some GetMempoolEntry
    else if bytes_eq name (codes "getmempoolancestors") then Some GetMempoolAncestors
    else if bytes_eq name (codes "getmempooldescendants") then Some GetMempoolDescendants
    else if bytes_eq name (codes "getmempoolinfo") then Some GetMempoolInfo
    else if bytes_eq name (codes "getrawtransaction") then Some GetRawTransaction
    else if bytes_eq name (codes "gettxspendingprevout") then Some GetTxSpendingPrevout
    else if bytes_eq name (codes "submitpackage") then Some SubmitPackage
    else None
