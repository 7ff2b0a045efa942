use Rattle.std.proofs.Common.{ℕ, ◌++◌, List, ap}
use Rattle.std.proofs.lemmas.Result.{err_from_is_err_and}
use Rattle.dd_stream.proofs.Going.{first_fails, then_sends, sends_same}
use Rattle.dd_encoding.specs.Head.{uid_text, uids_text, implementation_tag, implementation_uid}
use Rattle.dd_encoding.specs.Meta.{class_tag, instance_tag, transfer_tag}
use Rattle.dd_encoding.proofs.head.send_uids.Goals as goal

pub returns-in_err-sent : goal.returns-in_err-sent
unfolding uids_text
returns-in_err-sent g c =
    let p = err_from_is_err_and c.from_residual.result c.from_residual.ensures.1 in
    let class = uid_text class_tag c.args.meta.now.class in
    let instance = uid_text instance_tag c.args.meta.now.instance in
    let transfer = uid_text transfer_tag c.args.meta.now.transfer in
    let last = uid_text implementation_tag implementation_uid in
    rw (p.1, p.2) (first_fails class (instance ++ (transfer ++ last)) _ _ _ _ _ _
    (sends_same _ class _ _ _ _ _ _ (ap (λ (u : List ℕ). uid_text class_tag u) c.as_bytes.ensures.value)
    c.in_err-sent.ensures.sends))

pub returns-in_err-sent-2 : goal.returns-in_err-sent-2
unfolding uids_text
returns-in_err-sent-2 g c =
    let p = err_from_is_err_and c.from_residual-in_err-sent-2.result c.from_residual-in_err-sent-2.ensures.1 in
    let class = uid_text class_tag c.args.meta.now.class in
    let instance = uid_text instance_tag c.args.meta.now.instance in
    let transfer = uid_text transfer_tag c.args.meta.now.transfer in
    let last = uid_text implementation_tag implementation_uid in
    rw (p.1, p.2) (then_sends class (instance ++ (transfer ++ last)) _ _ _ _ _ _ _ _ _
    (sends_same _ class _ _ _ _ _ _ (ap (λ (u : List ℕ). uid_text class_tag u) c.as_bytes.ensures.value)
    c.in_ok-sent.ensures.sends)
    (first_fails instance (transfer ++ last) _ _ _ _ _ _
    (sends_same _ instance _ _ _ _ _ _ (ap (λ (u : List ℕ). uid_text instance_tag u) c.as_bytes-2.ensures.value)
    c.in_err-sent-2.ensures.sends)))

pub returns-in_err-sent-3 : goal.returns-in_err-sent-3
unfolding uids_text
returns-in_err-sent-3 g c =
    let p = err_from_is_err_and c.from_residual-in_err-sent-3.result c.from_residual-in_err-sent-3.ensures.1 in
    let class = uid_text class_tag c.args.meta.now.class in
    let instance = uid_text instance_tag c.args.meta.now.instance in
    let transfer = uid_text transfer_tag c.args.meta.now.transfer in
    let last = uid_text implementation_tag implementation_uid in
    rw (p.1, p.2) (then_sends class (instance ++ (transfer ++ last)) _ _ _ _ _ _ _ _ _
    (sends_same _ class _ _ _ _ _ _ (ap (λ (u : List ℕ). uid_text class_tag u) c.as_bytes.ensures.value)
    c.in_ok-sent.ensures.sends)
    (then_sends instance (transfer ++ last) _ _ _ _ _ _ _ _ _
    (sends_same _ instance _ _ _ _ _ _ (ap (λ (u : List ℕ). uid_text instance_tag u) c.as_bytes-2.ensures.value)
    c.in_ok-sent-2.ensures.sends)
    (first_fails transfer (last) _ _ _ _ _ _
    (sends_same _ transfer _ _ _ _ _ _ (ap (λ (u : List ℕ). uid_text transfer_tag u) c.as_bytes-3.ensures.value)
    c.in_err-sent-3.ensures.sends))))

pub returns : goal.returns
unfolding uids_text
returns g c =
    let class = uid_text class_tag c.args.meta.now.class in
    let instance = uid_text instance_tag c.args.meta.now.instance in
    let transfer = uid_text transfer_tag c.args.meta.now.transfer in
    let last = uid_text implementation_tag implementation_uid in
    then_sends class (instance ++ (transfer ++ last)) _ _ _ _ _ _ _ _ _
    (sends_same _ class _ _ _ _ _ _ (ap (λ (u : List ℕ). uid_text class_tag u) c.as_bytes.ensures.value)
    c.in_ok-sent.ensures.sends)
    (then_sends instance (transfer ++ last) _ _ _ _ _ _ _ _ _
    (sends_same _ instance _ _ _ _ _ _ (ap (λ (u : List ℕ). uid_text instance_tag u) c.as_bytes-2.ensures.value)
    c.in_ok-sent-2.ensures.sends)
    (then_sends transfer (last) _ _ _ _ _ _ _ _ _
    (sends_same _ transfer _ _ _ _ _ _ (ap (λ (u : List ℕ). uid_text transfer_tag u) c.as_bytes-3.ensures.value)
    c.in_ok-sent-3.ensures.sends)
    c.send_uid-4.ensures.sends))
