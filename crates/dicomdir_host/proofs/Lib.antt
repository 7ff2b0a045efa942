mod DirectoryPaths
mod ProgressLines
