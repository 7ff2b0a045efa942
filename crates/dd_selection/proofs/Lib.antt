mod AskedValues
mod CutTrees
mod LeftBelow
