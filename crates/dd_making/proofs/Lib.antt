mod CutPieces
mod Making
mod NotedMerges
mod PutNotes
mod PutPicks
mod ReadUids
mod SingleImages
