-- Group 0002 of a file: the file meta information (PS3.10 section 7.1).
use Rattle.std.specs.Prelude.{◌≡◌, ◌≢◌, ℕ, List, All, Contains, Option}
use Rattle.dd_elem.specs.Clean.{IsCleanOf}
use Rattle.dd_elem.specs.Uid.{IsUid}
use Rattle.dd_elem.specs.declared.tag.Tag.{Tag}
use Rattle.dd_elem.specs.declared.vr.Vr.{Vr}
use Rattle.dd_encoding.specs.Elements.{Elements, bytes}
use Rattle.dd_encoding.specs.Meta.{meta_group, class_tag, instance_tag, transfer_tag}
use Rattle.dd_grammar.specs.Lists.{element_list}
use Rattle.dd_encoding.specs.declared.meta.Meta.{Meta}

-- an element with this tag holds bytes, which are this UID and padding
pub record HasMetaUid (group : Elements) (tag : Tag) (uid : List ℕ) : Type 0 where
  pub vr : Option Vr
  pub value : List ℕ
  pub holds : Contains (element_list group) (record { tag = tag; vr = vr; content = bytes value })
  pub is : IsCleanOf value uid
  pub valid : IsUid uid

-- the elements after the group length are of group 0002 alone, none is the group length again, and they hold the meta
-- information
pub record IsMeta (group : Elements) (meta : Meta) : Type 0 where
  pub alone : All (λ e. (e.tag.group ≡ meta_group) × (e.tag.element ≢ 0x0000)) (element_list group)
  pub class : HasMetaUid group class_tag meta.class
  pub instance : HasMetaUid group instance_tag meta.instance
  pub transfer : HasMetaUid group transfer_tag meta.transfer
