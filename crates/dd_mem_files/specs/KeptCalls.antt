-- The calls that files in memory keep, as the contract of `Files` has them.
use Rattle.std.specs.Prelude.{List, map, string_bytes}
use Rattle.dd_files.specs.Calls.{Call, Create, End, Link, Store}
use Rattle.dd_mem_files.specs.declared.calls.Call.{Call as Kept}
use Rattle.dd_mem_files.specs.declared.calls.Call.TheVariants as kept

abbrev pub call_of : Kept → Call
call_of (kept.Create path) = Create (string_bytes path)
call_of (kept.End path) = End (string_bytes path)
call_of (kept.Link from path) = Link (string_bytes from) (string_bytes path)
call_of kept.Store = Store

abbrev pub calls_of : List Kept → List Call
calls_of calls = map call_of calls
